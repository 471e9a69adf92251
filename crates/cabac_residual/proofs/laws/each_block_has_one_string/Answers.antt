use Rattle.cabac_residual.proofs.OneString.{block_one}
use Rattle.cabac_residual.proofs.laws.each_block_has_one_string.Goals as goal

pub returns : goal.returns
returns c = λ cat field inc max. block_one cat field inc max
