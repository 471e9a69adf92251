use Rattle.cabac_mb_residual.proofs.Validity.{spelled_is_valid}
use Rattle.cabac_mb_residual.proofs.laws.what_is_spelled_is_a_residual.Goals as goal

pub returns : goal.returns
returns c = spelled_is_valid
