-- A macroblock in CABAC, outside its pair flag and its samples (7.3.4, 7.3.5): its elements are put into it one after another.
use Rattle.std.specs.Prelude.{ℕ, Bool, if◌then◌else◌, List, replicate}
use Rattle.binarisation.specs.BinString.{BinString, Value, ◌>>=◌}
use Rattle.binarisation.specs.Elements as syntax
use Rattle.h264_types.specs.Kind.{is_intra, is_i_pcm}
use Rattle.h264_types.specs.Sent.{sends_t8_last, sends_qp_delta}
use Rattle.h264_types.specs.declared.macroblock.Mb.{Mb}
use Rattle.h264_types.specs.declared.macroblock.MbKind.TheVariants.{Skip}
use Rattle.h264_types.specs.declared.slice_shape.SliceShape.{SliceShape}
use Rattle.cabac_contexts.specs.Increments as inc
use Rattle.cabac_inter.specs.InterPrediction.{inter_prediction}
use Rattle.cabac_mb_residual.specs.MacroblockResidual.{residual}
use Rattle.cabac_macroblock.specs.IntraPrediction.{intra_prediction}
use Rattle.cabac_macroblock.specs.CodedBlockPattern.{pattern}
use Rattle.cabac_macroblock.specs.MbType.{of_kind, skip_flag, mb_type}

-- transform_size_8x8_flag behind coded_block_pattern
unfoldable pub last_transform_size : SliceShape → List Mb → ℕ → Mb → BinString Mb
last_transform_size shape done at mb =
    if sends_t8_last shape mb.kind mb.subs mb.pattern
    then syntax.t8 (inc.t8 shape done at mb.field mb) >>= (λ flag. Value (record mb { t8 = flag }))
    else Value mb

unfoldable pub qp_delta : List Mb → ℕ → Mb → BinString Mb
qp_delta done at mb = syntax.qp_delta (inc.qp_delta done at) >>= (λ delta. Value (record mb { qp_delta = delta }))

unfoldable pub coding : SliceShape → List Mb → ℕ → Mb → BinString Mb
coding shape done at mb = if sends_qp_delta mb.kind mb.pattern then qp_delta done at mb >>= residual shape done at else Value mb

-- what follows the mb_type of an intra macroblock with prediction, and of a P or B macroblock
unfoldable pub intra_elements : SliceShape → List Mb → ℕ → Mb → BinString Mb
intra_elements shape done at mb = intra_prediction shape done at mb >>= pattern shape done at >>= coding shape done at

unfoldable pub inter_elements : SliceShape → List Mb → ℕ → Mb → BinString Mb
inter_elements shape done at mb =
    inter_prediction shape done at mb >>= pattern shape done at >>= last_transform_size shape done at >>= coding shape done at

-- what follows mb_type; behind that of I_PCM are samples, and those are no bins
unfoldable pub elements : SliceShape → List Mb → ℕ → Mb → BinString Mb
elements shape done at mb =
    if is_i_pcm mb.kind then Value mb
    else if is_intra mb.kind then intra_elements shape done at mb
    else inter_elements shape done at mb

-- macroblock_layer( ), without the samples of I_PCM
unfoldable pub layer : SliceShape → List Mb → ℕ → Bool → BinString Mb
layer shape done at field = mb_type shape done at field >>= (λ kind. elements shape done at (of_kind field kind))

-- mb_skip_flag, and the layer of a macroblock that isn't skipped
unfoldable pub macroblock : SliceShape → List Mb → ℕ → Bool → BinString Mb
macroblock shape done at field =
    skip_flag shape done at field >>= (λ skipped. if skipped then Value (of_kind field Skip) else layer shape done at field)

-- a macroblock but for its samples
abbrev pub without_samples : Mb → Mb
without_samples mb = record mb { pcm = replicate 384 0 }
