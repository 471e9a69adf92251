use Rattle.ref_pic_lists.proofs.WeightTexts.{table_read}
use Rattle.ref_pic_lists.proofs.laws.table_is_read_from_its_text.Goals as goal

pub returns : goal.returns
returns c = table_read
