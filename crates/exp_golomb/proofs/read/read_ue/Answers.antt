use Rattle.exp_golomb.specs.Code.{Ue}
use Rattle.exp_golomb.proofs.Fronts.{Reads-ue, element_at-from_front}
use Rattle.exp_golomb.proofs.read.read_ue.Goals as goal

pub returns-clause-reads : goal.returns-clause-reads
returns-clause-reads g c = Reads-ue c.args.max c.exp_golomb.result _ _ c.requires c.exp_golomb.ensures.front

pub returns-clause-element : goal.returns-clause-element
returns-clause-element g c = element_at-from_front (Ue c.args.max) c.exp_golomb.result _ _ _ _ c.exp_golomb.ensures.front c.exp_golomb.ensures.kept
