use Rattle.ref_pic_lists.proofs.ModificationTexts.{modification_written}
use Rattle.ref_pic_lists.proofs.laws.modification_text_is_the_written_one.Goals as goal

pub returns : goal.returns
returns c = modification_written
