-- The prediction of intra macroblocks in CABAC (7.3.5, 7.3.5.1). The elements are put into a macroblock one after another, so
-- that contexts rest on the macroblock as far as it was read.
use Rattle.std.specs.Prelude.{ℕ, if◌then◌else◌, List, slice_set}
use Rattle.binarisation.specs.BinString.{BinString, Value, ◌>>=◌}
use Rattle.binarisation.specs.Elements as elements
use Rattle.h264_types.specs.Kind.{is_i_nxn}
use Rattle.h264_types.specs.Sent.{sends_t8_first, mode_count}
use Rattle.h264_types.specs.declared.macroblock.Mb.{Mb}
use Rattle.h264_types.specs.declared.slice_shape.SliceShape.{SliceShape}
use Rattle.cabac_contexts.specs.Increments as inc
use Rattle.binarisation.specs.Each.{each}

-- transform_size_8x8_flag
unfoldable pub transform_size : SliceShape → List Mb → ℕ → Mb → BinString Mb
transform_size shape done at mb =
    if sends_t8_first shape mb.kind then elements.t8 (inc.t8 shape done at mb.field mb) >>= (λ flag. Value (record mb { t8 = flag })) else Value mb

-- prev_intra4x4_pred_mode_flag, and rem_intra4x4_pred_mode where it is 0, or those of an 8x8 block; mode 8 stands for a
-- flag of 1
unfoldable pub any_mode : BinString ℕ
any_mode = elements.mode_flag >>= (λ same. if same then Value 8 else elements.mode)

unfoldable pub mode_at : ℕ → Mb → BinString Mb
mode_at k mb = any_mode >>= (λ mode. Value (record mb { modes = slice_set mb.modes k mode }))

unfoldable pub modes : Mb → BinString Mb
modes mb = if is_i_nxn mb.kind then each (mode_count mb.t8) mode_at 0 mb else Value mb

-- intra_chroma_pred_mode
unfoldable pub chroma_mode : SliceShape → List Mb → ℕ → Mb → BinString Mb
chroma_mode shape done at mb =
    elements.chroma_mode (inc.chroma_mode shape done at mb.field mb) >>= (λ mode. Value (record mb { chroma_mode = mode }))

-- the prediction of a macroblock of an intra type other than I_PCM
unfoldable pub intra_prediction : SliceShape → List Mb → ℕ → Mb → BinString Mb
intra_prediction shape done at mb = transform_size shape done at mb >>= modes >>= chroma_mode shape done at
