use Rattle.std.proofs.Common.{refl}
use Rattle.exp_golomb.specs.EmulationPrevention.{escaped}
use Rattle.exp_golomb.proofs.Escapes.{payload_of-escaped}
use Rattle.annexb_units.proofs.Closed.{HasEscape-from_EndsNonzero}
use Rattle.annexb_units.proofs.laws.payloads_are_read_again.Goals as goal

pub returns-clause-has : goal.returns-clause-has
returns-clause-has c = HasEscape-from_EndsNonzero

pub returns-clause-again : goal.returns-clause-again
returns-clause-again c = λ payload h. payload_of-escaped payload (escaped payload) (HasEscape-from_EndsNonzero payload h, refl)
