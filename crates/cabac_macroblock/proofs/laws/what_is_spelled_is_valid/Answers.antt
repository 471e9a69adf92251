use Rattle.cabac_mb_residual.proofs.Validity.{spelled_is_valid}
use Rattle.cabac_macroblock.proofs.ValidMacroblock.{macroblock_valid, macroblock_typed, macroblock_pcm}
use Rattle.cabac_macroblock.proofs.laws.what_is_spelled_is_valid.Goals as goal

pub returns-clause-valid : goal.returns-clause-valid
returns-clause-valid c = λ shape done at field bins mb h other mbaff.
    macroblock_valid shape done at field bins mb (λ m levels value sizes apart spelled. let is = spelled_is_valid shape done at m levels value sizes apart spelled in (is.0, is.1)) h other mbaff

pub returns-clause-typed : goal.returns-clause-typed
returns-clause-typed c = macroblock_typed

pub returns-clause-pcm : goal.returns-clause-pcm
returns-clause-pcm c = macroblock_pcm
