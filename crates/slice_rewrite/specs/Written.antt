-- What is written for a stream.
use Rattle.std.specs.Prelude.{◌≡◌, ℕ, ◌-◌, Bool, true, false, List, [], ◌∷◌, ◌++◌, length, map, Option, Some, None}
use Rattle.std.specs.List.{concat}
use Rattle.bit_texts.specs.Bits.{bytes_of}
use Rattle.exp_golomb.specs.EmulationPrevention.{escaped}
use Rattle.h264_types.specs.declared.layer.Layer.{Layer}
use Rattle.init_table.specs.declared.table.InitTable.{InitTable}
use Rattle.param_sets.specs.PpsCodes.{pps_in, pps_text}
use Rattle.param_sets.specs.SpsCodes.{sps_text, without_constraints}
use Rattle.param_sets.specs.declared.pps.Pps.{Pps}
use Rattle.param_sets.specs.declared.sps.Sps.{Sps}
use Rattle.slice_data.specs.WrittenForm.{written_mb}
use Rattle.slice_header.specs.HeaderCodes.{active_in, header_in, header_text, unconstrained}
use Rattle.slice_header.specs.Shape.{shape_of}
use Rattle.slice_rewrite.specs.Items.{Slice, Item, Carried, TheSps, ThePps, TheSlice}
use Rattle.slice_rewrite.specs.Layers.{layer_of, IsNormalDataIn}
use Rattle.slice_rewrite.specs.Options.{Options, IsTried}
use Rattle.slice_rewrite.specs.Periods.{is_in_range, number_in}

-- a unit behind zero_byte and start_code_prefix_one_3bytes (B.1.1)
abbrev pub with_start_code : List ℕ → List ℕ
with_start_code unit = 0 ∷ 0 ∷ 0 ∷ 1 ∷ unit

-- a sequence parameter set is written without constraint_set0_flag and constraint_set2_flag, which promise streams
-- without CABAC
abbrev pub sps_unit : ℕ → Sps → List ℕ
sps_unit header sps = header ∷ escaped (bytes_of (sps_text (without_constraints sps)))

-- a picture parameter set is written in the wanted layer
abbrev pub pps_unit : Layer → ℕ → ℕ → Pps → List ℕ
pps_unit to number header pps = header ∷ escaped (bytes_of (pps_text (pps_in to number pps)))

-- in a partial run as it was read, and in the wanted layer under another number
abbrev pub pps_units : Options → Option (ℕ × ℕ) → List ℕ → ℕ → Pps → List (List ℕ)
pps_units o None unit header pps = pps_unit o.to pps.pic_parameter_set_id header pps ∷ []
pps_units o (Some range) unit header pps = unit ∷ pps_unit o.to (255 - pps.pic_parameter_set_id) header pps ∷ []

-- A slice in a layer, under its sets as they are written, of which the picture parameter set has this number.
-- cabac_init_idc is `idc` where it stands.
abbrev pub slice_under : Layer → ℕ → ℕ → Slice → Slice
slice_under to number idc s = record {
  header = header_in to number idc s.header;
  active = active_in to number (unconstrained s.active);
  mbs = map (written_mb to) s.mbs;
}

-- the same under its own number
abbrev pub slice_in : Layer → ℕ → Slice → Slice
slice_in to idc s = slice_under to s.header.pic_parameter_set_id idc s

-- the bits that are written for a slice, which is in its written form: its header, and its data in their normal form
pub record IsSliceBits (init : InitTable) (s : Slice) (bits : List Bool) : Type 0 where
  pub slice_data : List Bool
  pub data_are : IsNormalDataIn (layer_of s.active) init (shape_of s.active s.header) (length (header_text s.active s.header)) s.mbs slice_data
  pub bits_are : bits ≡ header_text s.active s.header ++ slice_data

abbrev pub IsSliceUnit : InitTable → Slice → List ℕ → Type 0
IsSliceUnit init s unit = (bits : List Bool) × IsSliceBits init s bits × (unit ≡ s.header.nal ∷ escaped (bytes_of bits))

-- this unit is written for a slice, whose picture parameter set has this number in it, with this cabac_init_idc where it stands
abbrev pub IsTriedUnit : Options → ℕ → ℕ → Slice → List ℕ → Type 0
IsTriedUnit o number idc s new = IsTried o.tries idc × IsSliceUnit o.init (slice_under o.to number idc s) new

-- a slice that is recoded is written anew, and another one as it was read
abbrev pub IsUnitFor : Bool → Options → List ℕ → Slice → List ℕ → Type 0
IsUnitFor true o unit s new = (idc : ℕ) × IsTriedUnit o (number_in o.range s.header.pic_parameter_set_id) idc s new
IsUnitFor false o unit s new = new ≡ unit

-- the units that are written for a unit, which is read as this item behind those items, of which the last one comes first
abbrev pub AreUnitsFor : Options → List Item → List ℕ → Item → List (List ℕ) → Type 0
AreUnitsFor o before unit (Carried u) units = units ≡ u ∷ []
AreUnitsFor o before unit (TheSps header sps) units = units ≡ sps_unit header sps ∷ []
AreUnitsFor o before unit (ThePps header pps) units = units ≡ pps_units o o.range unit header pps
AreUnitsFor o before unit (TheSlice s) units = (new : List ℕ) × IsUnitFor (is_in_range o.range before s) o unit s new × (units ≡ new ∷ [])

-- the macroblocks of a slice
abbrev pub macroblocks_of : Item → ℕ
macroblocks_of (Carried u) = 0
macroblocks_of (TheSps header sps) = 0
macroblocks_of (ThePps header pps) = 0
macroblocks_of (TheSlice s) = length s.mbs

-- the bytes that are written for a unit
abbrev pub IsFormOf : Options → List Item → List ℕ → Item → List ℕ → Type 0
IsFormOf o before unit i form = (units : List (List ℕ)) × AreUnitsFor o before unit i units × (form ≡ concat (map with_start_code units))

-- What is written for these units, one after another, which are read as these items up to the verdict, behind those items, of
-- which the last one comes first.
abbrev pub AreForms : Options → List Item → List (List ℕ) → List Item → List (List ℕ) → Type 0
AreForms o before [] items forms = forms ≡ []
AreForms o before (u ∷ us) [] forms = forms ≡ []
AreForms o before (u ∷ us) (i ∷ items) [] = ⊥
AreForms o before (u ∷ us) (i ∷ items) (form ∷ forms) = IsFormOf o before u i form × AreForms o (i ∷ before) us items forms

-- all bytes that are written for them
abbrev pub IsOutput : Options → List (List ℕ) → List Item → List ℕ → Type 0
IsOutput o units items bytes = (forms : List (List ℕ)) × AreForms o [] units items forms × (bytes ≡ concat forms)
