use Rattle.ref_pic_lists.proofs.WeightTexts.{one_table}
use Rattle.ref_pic_lists.proofs.laws.one_table_per_text.Goals as goal

pub returns : goal.returns
returns c = one_table
