use Rattle.cabac_mb_residual.proofs.ResidualBins.{residual_spelled}
use Rattle.cabac_mb_residual.proofs.laws.each_residual_has_bins.Goals as goal

pub returns : goal.returns
returns c = residual_spelled
