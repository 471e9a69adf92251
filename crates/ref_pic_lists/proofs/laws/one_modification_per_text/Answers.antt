use Rattle.ref_pic_lists.proofs.ModificationTexts.{one_modification}
use Rattle.ref_pic_lists.proofs.laws.one_modification_per_text.Goals as goal

pub returns : goal.returns
returns c = one_modification
