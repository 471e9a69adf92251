use Rattle.exp_golomb.specs.Code.{Te}
use Rattle.exp_golomb.proofs.Fronts.{Reads-te, element_at-from_front}
use Rattle.exp_golomb.proofs.read.read_te.Goals as goal

pub returns-clause-reads : goal.returns-clause-reads
returns-clause-reads g c = Reads-te c.args.max c.truncated.result _ _ c.requires.most c.truncated.ensures.front

pub returns-clause-element : goal.returns-clause-element
returns-clause-element g c = element_at-from_front (Te c.args.max) c.truncated.result _ _ _ _ c.truncated.ensures.front c.truncated.ensures.kept
