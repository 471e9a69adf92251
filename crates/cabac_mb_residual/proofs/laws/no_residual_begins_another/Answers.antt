use Rattle.binarisation.proofs.Spelling.{one_value}
use Rattle.cabac_mb_residual.specs.MacroblockResidual.{residual}
use Rattle.cabac_mb_residual.proofs.laws.no_residual_begins_another.Goals as goal

pub returns : goal.returns
returns c = λ shape done at mb. one_value (residual shape done at mb)
