-- The residual of a macroblock (ITU-T H.264, 7.3.5.3): its lists in their order, and those that are in range.
use Rattle.std.specs.Prelude.{ℕ, ◌≤◌, ◌==◌, ◌||◌, ℤ, pos, negsuc, nat_lt, Bool, if◌then◌else◌, List, [], ◌++◌, slice_index_or}
use Rattle.std.specs.List.{AllByRecursion, list_any}
use Rattle.cavlc_residual.specs.Coefficients.{magnitude}
use Rattle.cavlc_residual.specs.Block.{is_beyond}
use Rattle.h264_types.specs.declared.macroblock.Mb.{Mb}
use Rattle.h264_types.specs.declared.macroblock.Pattern.{Pattern}
use Rattle.h264_types.specs.Sizes.{HasSizes}
use Rattle.mb_neighbours.specs.declared.place.At.TheVariants.{Luma4}
use Rattle.cavlc_mb_residual.specs.declared.counts.Around.{Around}
use Rattle.cavlc_mb_residual.specs.Counts.{nC}
use Rattle.cavlc_mb_residual.specs.LumaBlocks.{luma_blocks}
use Rattle.cavlc_mb_residual.specs.Residual.{IsList, list_text, AreLumaBlocks, luma_text, AreChromaBlocks, chroma_text}

-- the AC lists of I_16x16 have 15 levels
abbrev pub max_of : Bool → ℕ
max_of is_16x16 = if is_16x16 then 15 else 16

abbrev pub dc_of : ℕ → Mb → List ℤ
dc_of comp mb = slice_index_or mb.chroma_dc comp []

abbrev pub ac_of : ℕ → Mb → List (List ℤ)
ac_of comp mb = slice_index_or mb.chroma_ac comp []

-- chroma DC is sent where the pattern has chroma, and chroma AC where it has 2
abbrev pub has_chroma_dc : Pattern → Bool
has_chroma_dc pattern = nat_lt 0 pattern.chroma

abbrev pub has_chroma_ac : Pattern → Bool
has_chroma_ac pattern = pattern.chroma == 2

-- Intra16x16DCLevel, with the nC of block 0
abbrev pub luma_dc_text : Around → Bool → List ℤ → List Bool
luma_dc_text around is_16x16 levels = list_text is_16x16 (pos (nC around.luma [] (Luma4 0))) levels

-- residual, of a macroblock that is I_16x16 or isn't, with this pattern
unfoldable pub residual_text : Around → Bool → Pattern → Mb → List Bool
residual_text around is_16x16 pattern mb =
    luma_dc_text around is_16x16 mb.dc
    ++ (luma_text around.luma pattern.luma (max_of is_16x16) (luma_blocks mb)
    ++ (list_text (has_chroma_dc pattern) (negsuc 0) (dc_of 0 mb)
    ++ (list_text (has_chroma_dc pattern) (negsuc 0) (dc_of 1 mb)
    ++ (chroma_text around.cb (has_chroma_ac pattern) (ac_of 0 mb)
    ++ (chroma_text around.cr (has_chroma_ac pattern) (ac_of 1 mb)
    ++ [])))))

-- the levels are in range, no level_prefix is above the bound, and what isn't sent is 0
pub record IsResidual (is_16x16 : Bool) (pattern : Pattern) (bound : ℕ) (mb : Mb) : Type 0 where
  pub dc : IsList is_16x16 16 bound mb.dc
  pub luma : AreLumaBlocks pattern.luma (max_of is_16x16) bound (luma_blocks mb)
  pub cb_dc : IsList (has_chroma_dc pattern) 4 bound (dc_of 0 mb)
  pub cr_dc : IsList (has_chroma_dc pattern) 4 bound (dc_of 1 mb)
  pub cb_ac : AreChromaBlocks (has_chroma_ac pattern) bound (ac_of 0 mb)
  pub cr_ac : AreChromaBlocks (has_chroma_ac pattern) bound (ac_of 1 mb)
  pub sizes : HasSizes mb

-- a macroblock with the residual of another one
abbrev pub with_residual : Mb → Mb → Mb
with_residual mb other = record mb { dc = other.dc; luma = other.luma; chroma_dc = other.chroma_dc; chroma_ac = other.chroma_ac }

-- ---- level_prefix above the bound

abbrev pub AreSmallLevels : List ℤ → Type 0
AreSmallLevels levels = AllByRecursion (λ l. magnitude l ≤ 65535) levels

pub record HasSmallLevels (mb : Mb) : Type 0 where
  pub dc : AreSmallLevels mb.dc
  pub luma : AllByRecursion AreSmallLevels (luma_blocks mb)
  pub chroma_dc : AllByRecursion AreSmallLevels mb.chroma_dc
  pub cb_ac : AllByRecursion AreSmallLevels (ac_of 0 mb)
  pub cr_ac : AllByRecursion AreSmallLevels (ac_of 1 mb)

abbrev pub is_beyond_mb : ℕ → Mb → Bool
is_beyond_mb bound mb =
    is_beyond bound mb.dc
    || (list_any (is_beyond bound) (luma_blocks mb)
    || (list_any (is_beyond bound) mb.chroma_dc
    || (list_any (is_beyond bound) (ac_of 0 mb)
    || list_any (is_beyond bound) (ac_of 1 mb))))
