-- The residual of a macroblock (7.3.5.3, 7.3.5.3.1 to 7.3.5.3.3), as a string of bins.
--
-- Each list of levels is put into the macroblock, one after another, since coded_block_flag rests on the lists before it.
use Rattle.std.specs.Prelude.{ℕ, ◌-◌, ◌*◌, ◌/◌, ◌%◌, ◌==◌, Bool, not, ◌||◌, if◌then◌else◌, ℤ, pos, List, [], ◌++◌, length, replicate, slice_index_or, slice_set}
use Rattle.h264_types.specs.Kind.{is_i_16x16}
use Rattle.h264_types.specs.Macroblock.{pattern_of, quarter_of, with_block}
use Rattle.h264_types.specs.declared.macroblock.Mb.{Mb}
use Rattle.h264_types.specs.declared.macroblock.MbKind.{MbKind}
use Rattle.h264_types.specs.declared.slice_shape.SliceShape.{SliceShape}
use Rattle.binarisation.specs.BinString.{BinString, Value, ◌>>=◌}
use Rattle.binarisation.specs.Each.{each}
use Rattle.cabac_residual.specs.Block.{block}
use Rattle.cabac_contexts.specs.Increments.{coded_block}
use Rattle.cabac_contexts.specs.Terms.{has_luma}

-- whether the contexts are those of field coding (Table 9-34)
abbrev pub is_field : SliceShape → Mb → Bool
is_field shape mb = shape.field_pic || mb.field

-- a list of so many levels, of a ctxBlockCat from 0 to 4, a chroma component and a block; the macroblock has those before it
unfoldable pub list : SliceShape → List Mb → ℕ → ℕ → ℕ → ℕ → ℕ → Mb → BinString (List ℤ)
list shape done at cat comp n max mb = block cat (is_field shape mb) (coded_block shape done at mb.field mb cat comp n) max

-- ---- a macroblock with these levels in a quarter, in a 4x4 luma block, in a chroma component, in a block of it

abbrev pub with_quarter : ℕ → Mb → List ℤ → Mb
with_quarter q mb levels = record mb { luma = slice_set mb.luma q levels }

abbrev pub with_luma4 : ℕ → Mb → List ℤ → Mb
with_luma4 n mb levels = with_quarter (n / 4) mb (with_block (quarter_of mb (n / 4)) (n % 4) levels)

abbrev pub with_chroma_dc : ℕ → Mb → List ℤ → Mb
with_chroma_dc comp mb levels = record mb { chroma_dc = slice_set mb.chroma_dc comp levels }

abbrev pub with_chroma_block : ℕ → ℕ → Mb → List ℤ → Mb
with_chroma_block comp n mb levels =
    record mb { chroma_ac = slice_set mb.chroma_ac comp (slice_set (slice_index_or mb.chroma_ac comp []) n levels) }

-- ---- luma

-- Intra16x16DCLevel
unfoldable pub luma_dc : SliceShape → List Mb → ℕ → Mb → BinString Mb
luma_dc shape done at mb =
    if is_i_16x16 mb.kind then list shape done at 0 0 0 16 mb >>= (λ levels. Value (record mb { dc = levels })) else Value mb

-- the category of a 4x4 luma block and how many levels its list has: Intra16x16ACLevel, or LumaLevel4x4
abbrev pub luma_cat : MbKind → ℕ
luma_cat kind = if is_i_16x16 kind then 1 else 2

abbrev pub luma_max : MbKind → ℕ
luma_max kind = if is_i_16x16 kind then 15 else 16

-- the sixteen places of a block: the levels of its list, and 0 behind them
abbrev pub filled : List ℤ → List ℤ
filled levels = levels ++ replicate (16 - length levels) (pos 0)

-- a 4x4 luma block
unfoldable pub luma4 : SliceShape → List Mb → ℕ → ℕ → Mb → BinString Mb
luma4 shape done at n mb =
    list shape done at (luma_cat mb.kind) 0 n (luma_max mb.kind) mb >>= (λ levels. Value (with_luma4 n mb (filled levels)))

-- A quarter whose bit the pattern has: LumaLevel8x8, whose category has no coded_block_flag, or the quarter's 4x4 blocks.
unfoldable pub quarter : SliceShape → List Mb → ℕ → ℕ → Mb → BinString Mb
quarter shape done at q mb =
    if not (has_luma mb q) then Value mb else
    if mb.t8 then block 5 (is_field shape mb) 0 64 >>= (λ levels. Value (with_quarter q mb levels)) else
    each 4 (luma4 shape done at) (4 * q) mb

-- ---- chroma

-- ChromaDCLevel of a component
unfoldable pub chroma_dc : SliceShape → List Mb → ℕ → ℕ → Mb → BinString Mb
chroma_dc shape done at comp mb =
    if (pattern_of mb).chroma == 0 then Value mb else
    list shape done at 3 comp 0 4 mb >>= (λ levels. Value (with_chroma_dc comp mb levels))

-- ChromaACLevel of a block of a component
unfoldable pub chroma_block : SliceShape → List Mb → ℕ → ℕ → ℕ → Mb → BinString Mb
chroma_block shape done at comp n mb = list shape done at 4 comp n 15 mb >>= (λ levels. Value (with_chroma_block comp n mb levels))

unfoldable pub chroma_ac : SliceShape → List Mb → ℕ → ℕ → Mb → BinString Mb
chroma_ac shape done at comp mb =
    if (pattern_of mb).chroma == 2 then each 4 (chroma_block shape done at comp) 0 mb else Value mb

-- ---- residual

-- the residual of a macroblock whose levels are all 0 so far
unfoldable pub residual : SliceShape → List Mb → ℕ → Mb → BinString Mb
residual shape done at mb =
    luma_dc shape done at mb
    >>= each 4 (quarter shape done at) 0
    >>= each 2 (chroma_dc shape done at) 0
    >>= each 2 (chroma_ac shape done at) 0
