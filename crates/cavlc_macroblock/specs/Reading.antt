-- Reading a macroblock from the bits. These are inverse to the texts.
use Rattle.std.specs.Prelude.{◌≡◌, ◌≢◌, ◌⊎◌, ℕ, Bool, true, false, List, ◌++◌, Option, Some, None}
use Rattle.bit_texts.specs.Cursor.{Cursor, Takes}
use Rattle.bit_texts.specs.Readings.{◌>>=◌, many_at}
use Rattle.exp_golomb.specs.Code.{U}
use Rattle.exp_golomb.specs.Element.{element_at}
use Rattle.h264_types.specs.Kind.{is_i_pcm, is_skip}
use Rattle.h264_types.specs.Valid.{is_kind_in}
use Rattle.h264_types.specs.declared.macroblock.Mb.{Mb}
use Rattle.h264_types.specs.declared.macroblock.MbKind.TheVariants.{P}
use Rattle.h264_types.specs.declared.slice_shape.SliceShape.{SliceShape}
use Rattle.pcm_samples.specs.Alignment.{alignment_at}
use Rattle.cavlc_mb_residual.specs.declared.counts.Around.{Around}
use Rattle.cavlc_macroblock.specs.MacroblockLayer.{IsLayer}
use Rattle.cavlc_macroblock.specs.Macroblock.{IsIPcm, i_pcm, macroblock_text}

-- the samples, 8 bits each
unfoldable pub samples_at : Cursor → Option (List ℕ × Cursor)
samples_at c = many_at 384 (element_at (U 8)) c

-- an I_PCM macroblock with this mb_field_decoding_flag behind its mb_type
unfoldable pub pcm_at : Bool → Cursor → Option (Mb × Cursor)
pcm_at field c =
    alignment_at c >>= λ aligned.
    samples_at aligned.1 >>= λ samples.
    Some (i_pcm field samples.0, samples.1)

-- the macroblocks with this mb_field_decoding_flag that aren't I_PCM and have a text with no level_prefix above the bound
abbrev pub IsPredicted : SliceShape → Bool → ℕ → Mb → Type 0
IsPredicted shape field bound mb = (is_i_pcm mb.kind ≡ false) × IsLayer shape mb.kind mb.ref0 field bound mb

-- The macroblocks with this mb_field_decoding_flag that have a text with no level_prefix above the bound: those of the
-- types of the slice that aren't skipped. Only P_8x8 is sent as P_8x8ref0, and only an MBAFF frame has pairs of fields.
pub record IsSent (shape : SliceShape) (field : Bool) (bound : ℕ) (mb : Mb) : Type 0 where
  pub kind : is_kind_in shape.kind mb.kind ≡ true
  pub sent : is_skip mb.kind ≡ false
  pub ref0 : mb.ref0 ≡ true → mb.kind ≡ P 3
  pub pair : field ≡ true → shape.mbaff ≡ true
  pub elements : IsIPcm field mb ⊎ IsPredicted shape field bound mb

-- what was answered at a place: the macroblock that was filled in, whose text was taken, or that no macroblock's text
-- begins the bits left
abbrev pub ReadsMacroblock : SliceShape → Bool → Around → ℕ → Cursor → Option (Unit {0}) → Mb → Cursor → Type 0
ReadsMacroblock shape field around bound before (Some x) mb after = IsSent shape field bound mb × Takes (macroblock_text shape around before.taken mb) before after
ReadsMacroblock shape field around bound before None mb after = (v : Mb) (more : List Bool) → IsSent shape field bound v → before.left ≢ macroblock_text shape around before.taken v ++ more
