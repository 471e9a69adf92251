use Rattle.exp_golomb.specs.Code.{Flag}
use Rattle.exp_golomb.proofs.Fronts.{Reads-flag, Gives-flag, element_at-from_front}
use Rattle.exp_golomb.proofs.read.read_flag.Goals as goal

pub returns-clause-reads : goal.returns-clause-reads
returns-clause-reads g c = Reads-flag c.bit.result _ _ c.bit.ensures.bit

pub returns-clause-front : goal.returns-clause-front
returns-clause-front g c = Gives-flag c.bit.result _ _ c.bit.ensures.bit

pub returns-clause-element : goal.returns-clause-element
returns-clause-element g c = element_at-from_front Flag c.bit.result _ _ _ _ (Gives-flag c.bit.result _ _ c.bit.ensures.bit) c.bit.ensures.kept
