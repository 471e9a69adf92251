use Rattle.ref_pic_lists.proofs.WeightTexts.{tables_apart}
use Rattle.ref_pic_lists.proofs.laws.no_table_begins_another.Goals as goal

pub returns : goal.returns
returns c = tables_apart
