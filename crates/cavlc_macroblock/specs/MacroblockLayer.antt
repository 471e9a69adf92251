-- A macroblock behind its mb_type, of every type but I_PCM (ITU-T H.264, 7.3.5, 7.3.5.1 to 7.3.5.3).
use Rattle.std.specs.Prelude.{◌≡◌, ℕ, suc, ◌+◌, ◌-◌, ◌*◌, ◌<◌, ◌≤◌, ◌==◌, IsTrue, ℤ, pos, negsuc, ◌≤ℤ◌, Bool, true, false, if◌then◌else◌, List, [], ◌∷◌, ◌++◌, replicate, take, drop}
use Rattle.bit_texts.specs.Bits.{binary}
use Rattle.bit_texts.specs.Texts.{IsWhen, when_text, turns_text, AreTurns}
use Rattle.exp_golomb.specs.Code.{ue, se}
use Rattle.code_tables.specs.CodedBlockPattern.{pattern_list}
use Rattle.h264_types.specs.Kind.{is_intra, is_i_nxn, is_i_16x16}
use Rattle.h264_types.specs.Macroblock.{no_elements, pattern_of}
use Rattle.h264_types.specs.Sent.{sends_t8, sends_t8_first, sends_t8_last, mode_count, sends_pattern, sends_qp_delta}
use Rattle.h264_types.specs.declared.macroblock.MbKind.{MbKind}
use Rattle.h264_types.specs.declared.macroblock.Mb.{Mb}
use Rattle.h264_types.specs.declared.macroblock.Pattern.{Pattern}
use Rattle.h264_types.specs.declared.slice_shape.SliceShape.{SliceShape}
use Rattle.cavlc_inter.specs.InterPrediction.{inter_text, IsInter, active_refs}
use Rattle.cavlc_mb_residual.specs.declared.counts.Around.{Around}
use Rattle.cavlc_mb_residual.specs.MacroblockResidual.{residual_text, IsResidual}

-- ---- transform_size_8x8_flag: before the modes of I_NxN, and of P and B macroblocks behind coded_block_pattern

abbrev pub IsFlag : Bool → Type 0
IsFlag flag = Unit {0}

abbrev pub flag_text : Bool → List Bool
flag_text flag = flag ∷ []

-- ---- prediction of I_NxN

-- prev_intra4x4_pred_mode_flag, and rem_intra4x4_pred_mode where it is 0; mode 8 stands for a flag of 1
abbrev pub mode_text : ℕ → List Bool
mode_text mode = if mode == 8 then true ∷ [] else false ∷ binary 3 mode

-- the modes that are sent, and 0 behind them
pub record AreModes (t8 : Bool) (modes : List ℕ) : Type 0 where
  pub sent : AreTurns (λ (_ : ℕ) mode. mode ≤ 8) (λ s _. s) (mode_count t8) 0 (take (mode_count t8) modes)
  pub others : drop (mode_count t8) modes ≡ replicate (16 - mode_count t8) 0

abbrev pub modes_text : Bool → List ℕ → List Bool
modes_text t8 modes = turns_text (λ (_ : ℕ) mode. mode_text mode) (λ s _. s) 0 (take (mode_count t8) modes)

-- ---- coded_block_pattern and mb_qp_delta

-- the first place of a number in a list
unfoldable pub place_in : List ℕ → ℕ → ℕ
place_in [] number = 0
place_in (x ∷ xs) number = if x == number then 0 else suc (place_in xs number)

-- me(v): ue of the pattern's place in the list of I_NxN or in that of P and B macroblocks
abbrev pub pattern_text : Bool → Pattern → List Bool
pattern_text intra pattern = ue (place_in (pattern_list intra) (16 * pattern.chroma + pattern.luma))

abbrev pub IsPattern : Pattern → Type 0
IsPattern pattern = (pattern.luma < 16) × (pattern.chroma < 3)

abbrev pub no_pattern : Pattern
no_pattern = record { luma = 0; chroma = 0 }

abbrev pub IsQpDelta : ℤ → Type 0
IsQpDelta delta = (negsuc 25 ≤ℤ delta) × (delta ≤ℤ pos 25)

-- ---- intra prediction, where transform_size_8x8_flag may stand before the modes (7.3.5.1)

abbrev pub intra_text : SliceShape → MbKind → Mb → List Bool
intra_text shape kind mb =
    when_text (sends_t8_first shape kind) flag_text mb.t8
    ++ (when_text (is_i_nxn kind) (modes_text mb.t8) mb.modes ++ when_text (is_intra kind) ue mb.chroma_mode)

pub record IsIntra (shape : SliceShape) (kind : MbKind) (mb : Mb) : Type 0 where
  pub t8 : IsWhen (sends_t8_first shape kind) false IsFlag mb.t8
  pub modes : IsWhen (is_i_nxn kind) (replicate 16 0) (AreModes mb.t8) mb.modes
  pub chroma_mode : IsWhen (is_intra kind) 0 (λ mode. mode ≤ 3) mb.chroma_mode

-- a macroblock with the intra prediction of another one
abbrev pub with_intra : Mb → Mb → Mb
with_intra mb other = record mb { t8 = other.t8; modes = other.modes; chroma_mode = other.chroma_mode }

-- ---- the prediction, of a type that is P_8x8ref0 or isn't; intra macroblocks send no reference and no vector

abbrev pub prediction_text : SliceShape → MbKind → Bool → Mb → List Bool
prediction_text shape kind ref0 mb = intra_text shape kind mb ++ inter_text kind ref0 (active_refs shape mb) mb

-- `field` is mb_field_decoding_flag, which stands before mb_type
pub record IsPrediction (shape : SliceShape) (kind : MbKind) (ref0 field : Bool) (mb : Mb) : Type 0 where
  pub absent : mb ≡ record (no_elements kind) {
    ref0 = ref0;
    field = field;
    t8 = mb.t8;
    modes = mb.modes;
    chroma_mode = mb.chroma_mode;
    subs = mb.subs;
    refs = mb.refs;
    mvd = mb.mvd;
  }
  pub intra : IsIntra shape kind mb
  pub inter : IsInter kind ref0 (active_refs shape mb) mb

-- ---- what stands behind the prediction

abbrev pub coding_text : SliceShape → Around → MbKind → Mb → List Bool
coding_text shape around kind mb =
    when_text (sends_pattern kind) (pattern_text (is_i_nxn kind)) mb.pattern
    ++ (when_text (sends_t8_last shape kind mb.subs mb.pattern) flag_text mb.t8
    ++ (when_text (sends_qp_delta kind mb.pattern) se mb.qp_delta
    ++ residual_text around (is_i_16x16 kind) (pattern_of mb) mb))

-- behind the type and the prediction of `before`
pub record IsCoding (shape : SliceShape) (before : Mb) (bound : ℕ) (mb : Mb) : Type 0 where
  pub pattern : IsWhen (sends_pattern before.kind) no_pattern IsPattern mb.pattern
  pub t8 : IsWhen (sends_t8_last shape before.kind mb.subs mb.pattern) before.t8 IsFlag mb.t8
  pub qp_delta : IsWhen (sends_qp_delta before.kind mb.pattern) (pos 0) IsQpDelta mb.qp_delta
  pub residual : IsResidual (is_i_16x16 before.kind) (pattern_of mb) bound mb

-- a macroblock with these elements of another one
abbrev pub with_coding : Mb → Mb → Mb
with_coding mb other = record mb {
  t8 = other.t8;
  pattern = other.pattern;
  qp_delta = other.qp_delta;
  dc = other.dc;
  luma = other.luma;
  chroma_dc = other.chroma_dc;
  chroma_ac = other.chroma_ac;
}

-- ---- the layer

unfoldable pub layer_text : SliceShape → Around → MbKind → Bool → Mb → List Bool
layer_text shape around kind ref0 mb = prediction_text shape kind ref0 mb ++ coding_text shape around kind mb

-- a macroblock of this type and mb_field_decoding_flag, in its range where an element is sent, else absent
pub record IsLayer (shape : SliceShape) (kind : MbKind) (ref0 field : Bool) (bound : ℕ) (mb : Mb) : Type 0 where
  pub absent : mb ≡ record (no_elements kind) {
    ref0 = ref0;
    field = field;
    t8 = mb.t8;
    modes = mb.modes;
    chroma_mode = mb.chroma_mode;
    subs = mb.subs;
    refs = mb.refs;
    mvd = mb.mvd;
    pattern = mb.pattern;
    qp_delta = mb.qp_delta;
    dc = mb.dc;
    luma = mb.luma;
    chroma_dc = mb.chroma_dc;
    chroma_ac = mb.chroma_ac;
  }
  pub t8 : IsTrue mb.t8 → IsTrue (sends_t8 shape mb)
  pub modes : IsWhen (is_i_nxn kind) (replicate 16 0) (AreModes mb.t8) mb.modes
  pub chroma_mode : IsWhen (is_intra kind) 0 (λ mode. mode ≤ 3) mb.chroma_mode
  pub inter : IsInter kind ref0 (active_refs shape mb) mb
  pub pattern : IsWhen (sends_pattern kind) no_pattern IsPattern mb.pattern
  pub qp_delta : IsWhen (sends_qp_delta kind mb.pattern) (pos 0) IsQpDelta mb.qp_delta
  pub residual : IsResidual (is_i_16x16 kind) (pattern_of mb) bound mb
