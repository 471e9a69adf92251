use Rattle.ref_pic_lists.proofs.ModificationTexts.{reads, in_range}
use Rattle.ref_pic_lists.proofs.read_modification_text.read_modification.Goals as goal

pub returns-clause-reads : goal.returns-clause-reads
returns-clause-reads g c = reads c.read_whole.result _ _ c.read_whole.ensures.answers

pub returns-clause-in_range : goal.returns-clause-in_range
returns-clause-in_range g c = in_range c.read_whole.result _ _ c.read_whole.ensures.answers
