-- The text of a macroblock (ITU-T H.264, 7.3.5).
use Rattle.std.specs.Prelude.{◌≡◌, ℕ, ◌+◌, if◌then◌else◌, Bool, List, ◌++◌, length}
use Rattle.bit_texts.specs.Bits.{bits_of}
use Rattle.cavlc_mb_residual.specs.declared.counts.Around.{Around}
use Rattle.h264_types.specs.Kind.{is_i_pcm}
use Rattle.h264_types.specs.Macroblock.{no_elements}
use Rattle.h264_types.specs.declared.macroblock.Mb.{Mb}
use Rattle.h264_types.specs.declared.macroblock.MbKind.TheVariants.{Intra, Skip}
use Rattle.h264_types.specs.declared.slice_shape.SliceShape.{SliceShape}
use Rattle.pcm_samples.specs.Alignment.{alignment}
use Rattle.pcm_samples.specs.Samples.{AreSamples}
use Rattle.cavlc_macroblock.specs.MacroblockLayer.{layer_text}
use Rattle.cavlc_macroblock.specs.MbType.{type_text}

-- a skipped macroblock with this mb_field_decoding_flag, which stands before mb_type or is inferred
abbrev pub skipped : Bool → Mb
skipped field = record (no_elements Skip) { field = field }

-- an I_PCM macroblock with this mb_field_decoding_flag, of these samples
abbrev pub i_pcm : Bool → List ℕ → Mb
i_pcm field samples = record (no_elements (Intra 25)) { field = field; pcm = samples }

-- the macroblock is I_PCM: it has its pair's flag and samples, and no other element
pub record IsIPcm (field : Bool) (mb : Mb) : Type 0 where
  pub elements : mb ≡ i_pcm field mb.pcm
  pub samples : AreSamples mb.pcm

-- pcm_sample_luma and pcm_sample_chroma, 8 bits each, behind the alignment
abbrev pub pcm_text : ℕ → Mb → List Bool
pcm_text pos mb = alignment pos ++ bits_of mb.pcm

-- what stands behind mb_type and `pos` bits: samples, or prediction, coded_block_pattern, mb_qp_delta and residual
abbrev pub behind_type : SliceShape → Around → ℕ → Mb → List Bool
behind_type shape around pos mb = if is_i_pcm mb.kind then pcm_text pos mb else layer_text shape around mb.kind mb.ref0 mb

-- macroblock_layer( ), with `pos` bits before it, where `around` tells what the blocks beside the macroblock count
unfoldable pub macroblock_text : SliceShape → Around → ℕ → Mb → List Bool
macroblock_text shape around pos mb =
    let type = type_text shape.kind mb in
    type ++ behind_type shape around (pos + length type) mb
