use Rattle.cabac_mb_residual.specs.Levels.{without_levels}
use Rattle.cabac_mb_residual.proofs.Spelled.{sized-none}
use Rattle.cabac_mb_residual.proofs.OneString.{residual_one}
use Rattle.cabac_macroblock.proofs.OneMacroblock.{macroblock_one}
use Rattle.cabac_macroblock.proofs.laws.each_macroblock_has_one_string.Goals as goal

pub returns : goal.returns
returns c = λ shape done at field. macroblock_one shape done at field (λ m. residual_one shape done at (without_levels m) (sized-none m))
