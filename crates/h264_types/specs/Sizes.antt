-- The lengths of a macroblock's lists, which are the same for all (7.3.5.1 to 7.3.5.3).
use Rattle.std.specs.Prelude.{◌≡◌, length}
use Rattle.std.specs.List.{AllByRecursion}
use Rattle.h264_types.specs.declared.macroblock.Mb.{Mb}

-- its lists are as long as those of any macroblock
pub record HasSizes (mb : Mb) : Type 0 where
  pub modes : length mb.modes ≡ 16
  pub subs : length mb.subs ≡ 4
  pub refs : (length mb.refs ≡ 2) × AllByRecursion (λ list. length list ≡ 4) mb.refs
  pub mvd : (length mb.mvd ≡ 2) × AllByRecursion (λ list. (length list ≡ 16) × AllByRecursion (λ difference. length difference ≡ 2) list) mb.mvd
  pub dc : length mb.dc ≡ 16
  pub luma : (length mb.luma ≡ 4) × AllByRecursion (λ quarter. length quarter ≡ 64) mb.luma
  pub chroma_dc : (length mb.chroma_dc ≡ 2) × AllByRecursion (λ list. length list ≡ 4) mb.chroma_dc
  pub chroma_ac : (length mb.chroma_ac ≡ 2) × AllByRecursion (λ blocks. (length blocks ≡ 4) × AllByRecursion (λ block. length block ≡ 15) blocks) mb.chroma_ac
  pub pcm : length mb.pcm ≡ 384
