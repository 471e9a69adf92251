use Rattle.ref_pic_lists.proofs.ModificationTexts.{modifications_apart}
use Rattle.ref_pic_lists.proofs.laws.no_modification_begins_another.Goals as goal

pub returns : goal.returns
returns c = modifications_apart
