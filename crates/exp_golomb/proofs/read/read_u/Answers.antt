use Rattle.exp_golomb.specs.Code.{U}
use Rattle.exp_golomb.proofs.Fronts.{Reads-u, element_at-from_front}
use Rattle.exp_golomb.proofs.read.read_u.Goals as goal

pub returns-clause-reads : goal.returns-clause-reads
returns-clause-reads g c = Reads-u c.args.n c.number.result _ _ c.number.ensures.front

pub returns-clause-element : goal.returns-clause-element
returns-clause-element g c = element_at-from_front (U c.args.n) c.number.result _ _ _ _ c.number.ensures.front c.number.ensures.kept
