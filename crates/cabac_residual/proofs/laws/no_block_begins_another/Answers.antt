use Rattle.binarisation.proofs.Spelling.{one_value}
use Rattle.cabac_residual.specs.Block.{block}
use Rattle.cabac_residual.proofs.laws.no_block_begins_another.Goals as goal

pub returns : goal.returns
returns c = λ cat field inc max. one_value (block cat field inc max)
