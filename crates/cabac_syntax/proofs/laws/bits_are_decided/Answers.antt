use Rattle.cabac_syntax.specs.SliceData.{first_states}
use Rattle.cabac_syntax.proofs.Decided.{decided}
use Rattle.cabac_syntax.proofs.laws.bits_are_decided.Goals as goal

pub returns : goal.returns
returns c = λ init shape. decided (first_states init shape) shape
