-- What the units of a stream are read as (ITU-T H.264, 7.3.1, 7.4.1 and Table 7-1).
use Rattle.std.specs.Prelude.{◌≡◌, ℕ, ◌-◌, ◌%◌, ◌&&◌, ◌||◌, ◌==◌, nat_le, if◌then◌else◌, Bool, false, List, [], ◌∷◌, drop, length, slice_index}
use Rattle.bit_texts.specs.Bits.{bits_of}
use Rattle.exp_golomb.specs.EmulationPrevention.{IsEscape}
use Rattle.exp_golomb.specs.Syntax.{Found, Spells}
use Rattle.h264_types.specs.declared.layer.Layer.{Layer}
use Rattle.h264_types.specs.declared.macroblock.Mb.{Mb}
use Rattle.init_table.specs.declared.table.InitTable.{InitTable}
use Rattle.param_sets.specs.PictureParameterSet.{PpsText}
use Rattle.param_sets.specs.PpsCodes.{mode_flag_of}
use Rattle.param_sets.specs.SequenceParameterSet.{SpsText}
use Rattle.param_sets.specs.Sets.{SetMaps, no_sets, sps_put, pps_put}
use Rattle.param_sets.specs.declared.pps.Pps.{Pps}
use Rattle.param_sets.specs.declared.sps.Sps.{Sps}
use Rattle.slice_header.specs.HeaderCodes.{Names}
use Rattle.slice_header.specs.Shape.{is_mbaff, shape_of}
use Rattle.header_parts.specs.ActiveSets.{Active}
use Rattle.slice_header.specs.SliceHeader.{slice_header}
use Rattle.header_parts.specs.declared.header.Header.{Header}
use Rattle.slice_rewrite.specs.Layers.{layer_of, HasDataIn, IsDataIn}
use Rattle.slice_rewrite.specs.declared.kinds.UnitKind.{UnitKind}
use Rattle.slice_rewrite.specs.declared.kinds.UnitKind.TheVariants.{Carried as IsCarried, Slice as IsSlice, Sps as IsSps, Pps as IsPps, Refused as IsRefused}

-- ## Units

-- the first byte of a unit
abbrev pub header_of : List ℕ → ℕ
header_of unit = slice_index unit 0

-- nal_unit_type, the last five bits of the header byte
abbrev pub unit_type : List ℕ → ℕ
unit_type unit = header_of unit % 32

-- Supplemental enhancement information, delimiters, ends of sequences and streams, filler data and the unspecified
-- types 24 to 31 are carried. Slices stand in types 1 and 5, sequence and picture parameter sets in types 7 and 8.
abbrev pub kind_of_type : ℕ → UnitKind
kind_of_type t =
    if (t == 6) || ((nat_le 9 t && nat_le t 12) || nat_le 24 t) then IsCarried
    else (if (t == 1) || (t == 5) then IsSlice else (if t == 7 then IsSps else (if t == 8 then IsPps else IsRefused)))

abbrev pub kind_of : List ℕ → UnitKind
kind_of unit = kind_of_type (unit_type unit)

-- a unit of this kind with this payload
abbrev pub IsUnit : UnitKind → List ℕ → List ℕ → Type 0
IsUnit kind payload unit = (kind_of unit ≡ kind) × IsEscape payload (drop 1 unit)

-- ## Items

-- a coded slice: its header, the sets that stand when it comes, and its macroblocks
pub record Slice : Type 0 where
  pub header : Header
  pub active : Active
  pub mbs : List Mb

-- what a unit is read as; a set stands with its header byte, a slice has it in its header
pub data Item : Type 0 where
  Carried : List ℕ → Item
  TheSps : ℕ → Sps → Item
  ThePps : ℕ → Pps → Item
  TheSlice : Slice → Item

-- the sets that stand behind an item (7.4.1.2.1)
abbrev pub put : Item → SetMaps → SetMaps
put (Carried unit) sets = sets
put (TheSps header sps) sets = sps_put sps sets
put (ThePps header pps) sets = pps_put pps sets
put (TheSlice slice) sets = sets

-- items behind others, of which the last one comes first
abbrev pub behind : List Item → List Item → List Item
behind [] before = before
behind (i ∷ items) before = behind items (i ∷ before)

-- the sets that stand behind these items, of which the last one comes first
abbrev pub sets_behind : List Item → SetMaps
sets_behind [] = no_sets
sets_behind (i ∷ before) = put i (sets_behind before)

-- ## Slices

-- Slices of MBAFF frames are recoded from CAVLC to CAVLC alone yet: where one is in CABAC, or CABAC is wanted, it is refused
-- behind its header.
abbrev pub is_unbuilt : Layer → Active → Header → Bool
is_unbuilt to active h = is_mbaff active h && (mode_flag_of to || active.pps.entropy_coding_mode_flag)

-- these bits, the payload of a unit with this header byte, are those of the slice under the sets that stand (7.3.2.8), with
-- this table of initial pairs where it is in CABAC
pub record IsSliceOf (to : Layer) (init : InitTable) (sets : SetMaps) (header : ℕ) (bits : List Bool) (s : Slice) : Type 0 where
  pub names : Names sets s.header.pic_parameter_set_id s.active
  pub rest : List Bool
  pub header_is : Spells (slice_header sets header) bits (Found s.header rest)
  pub built : is_unbuilt to s.active s.header ≡ false
  pub list : HasDataIn (layer_of s.active) (shape_of s.active s.header) s.mbs
  pub data_are : IsDataIn (layer_of s.active) init (shape_of s.active s.header) (length bits - length rest) s.mbs rest

-- ## Reading

-- the unit is read as this item, for this layer, with this table and under these sets
abbrev pub IsItem : Layer → InitTable → SetMaps → List ℕ → Item → Type 0
IsItem to init sets unit (Carried u) = (payload : List ℕ) × IsUnit IsCarried payload unit × (u ≡ unit)
IsItem to init sets unit (TheSps header sps) = (payload : List ℕ) × IsUnit IsSps payload unit × (header ≡ header_of unit) × SpsText sps (bits_of payload)
IsItem to init sets unit (ThePps header pps) = (payload : List ℕ) × IsUnit IsPps payload unit × (header ≡ header_of unit) × PpsText pps (bits_of payload)
IsItem to init sets unit (TheSlice s) = (payload : List ℕ) × IsUnit IsSlice payload unit × IsSliceOf to init sets (header_of unit) (bits_of payload) s

-- one item for each unit, in order, behind those items of which the last one comes first
abbrev pub AreItems : Layer → InitTable → List Item → List (List ℕ) → List Item → Type 0
AreItems to init before [] [] = Unit {0}
AreItems to init before (u ∷ us) (i ∷ items) = IsItem to init (sets_behind before) u i × AreItems to init (i ∷ before) us items
AreItems to init before [] (i ∷ items) = ⊥
AreItems to init before (u ∷ us) [] = ⊥
