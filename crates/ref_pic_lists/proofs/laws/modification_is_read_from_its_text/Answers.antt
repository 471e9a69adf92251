use Rattle.ref_pic_lists.proofs.ModificationTexts.{modification_read}
use Rattle.ref_pic_lists.proofs.laws.modification_is_read_from_its_text.Goals as goal

pub returns : goal.returns
returns c = modification_read
