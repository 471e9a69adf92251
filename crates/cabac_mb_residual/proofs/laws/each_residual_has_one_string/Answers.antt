use Rattle.cabac_mb_residual.specs.Levels.{without_levels}
use Rattle.cabac_mb_residual.proofs.Spelled.{sized-none}
use Rattle.cabac_mb_residual.proofs.OneString.{residual_one}
use Rattle.cabac_mb_residual.proofs.laws.each_residual_has_one_string.Goals as goal

pub returns : goal.returns
returns c = λ shape done at mb. residual_one shape done at (without_levels mb) (sized-none mb)
