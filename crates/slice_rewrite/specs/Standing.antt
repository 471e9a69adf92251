-- Slices that are written as they stand.
use Rattle.std.specs.Prelude.{◌≡◌, ℕ, Bool, false, List, length, All}
use Rattle.h264_types.specs.Kind.{is_i_pcm}
use Rattle.h264_types.specs.declared.layer.Layer.{Layer}
use Rattle.h264_types.specs.declared.layer.Layer.TheVariants.{Cabac}
use Rattle.h264_types.specs.declared.macroblock.Mb.{Mb}
use Rattle.h264_types.specs.declared.slice_shape.SliceShape.{SliceShape}
use Rattle.pattern_fix.specs.NormalPattern.{IsEmptied}
use Rattle.slice_data.specs.WrittenForm.{written_mb}
use Rattle.slice_header.specs.HeaderCodes.{header_in}
use Rattle.slice_rewrite.specs.Layers.{layer_of}
use Rattle.slice_rewrite.specs.SliceForms.{sets_in}
use Rattle.slice_rewrite.specs.declared.opening.OpenSlice.{OpenSlice}

-- a macroblock in its written form, and one whose data have one form: in CABAC the bins before samples may end in either bit
pub record IsAsWritten (to : Layer) (mb : Mb) : Type 0 where
  pub form : written_mb to mb ≡ mb
  pub kept : IsEmptied mb → ⊥
  pub one_form : to ≡ Cabac → is_i_pcm mb.kind ≡ false

-- a header that is written for a layer, under this number of a picture parameter set and with this cabac_init_idc, as it stands
pub record IsHeaderAsWritten (to : Layer) (number idc : ℕ) (s : OpenSlice) : Type 0 where
  pub layer : layer_of (sets_in s) ≡ to
  pub header : header_in to number idc s.header ≡ s.header

-- slice data with so many macroblocks, each of them in its written form
pub record AreDataAsWritten (HasData : SliceShape → List Mb → Type 0) (IsData : SliceShape → ℕ → List Mb → List Bool → Type 0) (to : Layer) (shape : SliceShape) (pos : ℕ) (left : List Bool) (count : ℕ) : Type 0 where
  pub mbs : List Mb
  pub list : HasData shape mbs
  pub read : IsData shape pos mbs left
  pub all : All (IsAsWritten to) mbs
  pub counted : count ≡ length mbs
