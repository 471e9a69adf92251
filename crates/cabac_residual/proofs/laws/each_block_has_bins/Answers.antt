use Rattle.cabac_residual.proofs.BlockBins.{block_spelled}
use Rattle.cabac_residual.proofs.laws.each_block_has_bins.Goals as goal

pub returns : goal.returns
returns c = block_spelled
