use Rattle.ref_pic_lists.proofs.WeightTexts.{table_written}
use Rattle.ref_pic_lists.proofs.laws.table_text_is_the_written_one.Goals as goal

pub returns : goal.returns
returns c = table_written
