-- Which elements a macroblock sends (7.3.5, 7.3.5.1), by its type and the elements before them.
use Rattle.std.specs.Prelude.{ℕ, Bool, true, false, not, ◌&&◌, ◌||◌, ◌==◌, nat_lt, if◌then◌else◌, List}
use Rattle.std.specs.List.{list_all}
use Rattle.h264_types.specs.declared.macroblock.MbKind.{MbKind}
use Rattle.h264_types.specs.declared.macroblock.MbKind.TheVariants.{Skip, Intra, P, B}
use Rattle.h264_types.specs.declared.macroblock.Mb.{Mb}
use Rattle.h264_types.specs.declared.macroblock.Pattern.{Pattern}
use Rattle.h264_types.specs.declared.slice_shape.SliceShape.{SliceShape}
use Rattle.h264_types.specs.Kind.{is_i_nxn, is_i_16x16}

-- transform_size_8x8_flag before the prediction: in I_NxN
abbrev pub sends_t8_first : SliceShape → MbKind → Bool
sends_t8_first shape kind = shape.t8_mode && is_i_nxn kind

-- no part of a P or B macroblock is below 8x8, where direct ones follow direct_8x8_inference_flag
abbrev pub takes_t8 : Bool → MbKind → List ℕ → Bool
takes_t8 direct8 (P n) subs = list_all (λ sub. sub == 0) subs
takes_t8 direct8 (B n) subs =
    if n == 0 then direct8
    else if n == 22 then list_all (λ sub. nat_lt sub 4 && (direct8 || not (sub == 0))) subs
    else true
takes_t8 direct8 Skip subs = false
takes_t8 direct8 (Intra n) subs = false

-- transform_size_8x8_flag behind coded_block_pattern: in P and B macroblocks of such parts with luma levels
abbrev pub sends_t8_last : SliceShape → MbKind → List ℕ → Pattern → Bool
sends_t8_last shape kind subs pattern =
    shape.t8_mode && (not (pattern.luma == 0) && takes_t8 shape.direct8 kind subs)

-- transform_size_8x8_flag, in one of its two places
abbrev pub sends_t8 : SliceShape → Mb → Bool
sends_t8 shape mb =
    sends_t8_first shape mb.kind || sends_t8_last shape mb.kind mb.subs mb.pattern

-- how many prediction modes I_NxN sends: one for each 8x8 block, or for each 4x4 block
abbrev pub mode_count : Bool → ℕ
mode_count t8 = if t8 then 4 else 16

-- coded_block_pattern: not in skipped, I_16x16 and I_PCM macroblocks
abbrev pub sends_pattern : MbKind → Bool
sends_pattern (Intra n) = n == 0
sends_pattern Skip = false
sends_pattern (P n) = true
sends_pattern (B n) = true

-- mb_qp_delta and the residual behind it: in I_16x16, and behind a coded_block_pattern other than 0
abbrev pub sends_qp_delta : MbKind → Pattern → Bool
sends_qp_delta kind pattern = is_i_16x16 kind || not (pattern.luma == 0 && pattern.chroma == 0)
