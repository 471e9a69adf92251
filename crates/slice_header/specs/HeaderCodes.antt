-- The codes of a slice header in their order, and the ranges of its elements (ITU-T H.264, 7.3.3 and 7.4.3).
use Rattle.std.specs.Prelude.{◌≡◌, ℕ, ◌≤◌, Bool, true, false, not, ◌&&◌, List, [], ◌∷◌, Some, Result, Ok, Err, if◌then◌else◌}
use Rattle.exp_golomb.specs.Code.{Ue, ue, se}
use Rattle.exp_golomb.specs.Syntax.{Outcome, Found, Refused, Spells, joined}
use Rattle.h264_types.specs.declared.layer.Layer.{Layer}
use Rattle.header_parts.specs.ActiveSets.{Active}
use Rattle.header_parts.specs.PartsOf.{picture_of, order_of, references_of, lists_of, marking_of, filter_of}
use Rattle.header_parts.specs.Picture.{picture_text, order_text, PictureFits, OrderFits, IsDelta}
use Rattle.header_parts.specs.QuantisationAndFilter.{slice_qp_y, is_qp, deblocking_text, DeblockingFits}
use Rattle.header_parts.specs.ReferenceLists.{lists_text, ListsFit}
use Rattle.header_parts.specs.References.{references_text, ReferencesFit}
use Rattle.header_parts.specs.Refusal.{Refusal, OutsideProfile, NoPps, NoSps}
use Rattle.header_parts.specs.RefPicMarking.{marking_text, MarkingFits}
use Rattle.header_parts.specs.SliceTypes.{is_i, is_switching}
use Rattle.header_parts.specs.When.{code_when, IsInWhen}
use Rattle.header_parts.specs.declared.fault.HeaderFault.{HeaderFault}
use Rattle.header_parts.specs.declared.fault.HeaderFault.TheVariants.{NoReading, MissingPps, MissingSps, Profile, Memory}
use Rattle.header_parts.specs.declared.header.Header.{Header}
use Rattle.param_sets.specs.PpsCodes.{mode_flag_of, pps_in}
use Rattle.param_sets.specs.Sets.{SetMaps, find_pps, find_sps}
use Rattle.param_sets.specs.SpsCodes.{without_constraints}
use Rattle.slice_header.specs.SliceHeader.{breaks_main, has_init, slice_header}

-- ---- codes

abbrev pub start_text : Header → List Bool
start_text h = joined (ue h.first_mb_in_slice ∷ ue h.slice_type ∷ ue h.pic_parameter_set_id ∷ [])

unfoldable pub header_text : Active → Header → List Bool
header_text active h = joined (
    start_text h
    ∷ picture_text active.sps h.nal (picture_of h)
    ∷ order_text active h.field_pic_flag (order_of h)
    ∷ references_text h.slice_type (references_of h)
    ∷ lists_text h.slice_type (lists_of h)
    ∷ marking_text h.nal (marking_of h)
    ∷ code_when (has_init active.pps h.slice_type) (Ue 2) h.cabac_init_idc
    ∷ se h.slice_qp_delta
    ∷ deblocking_text active.pps.deblocking_filter_control_present_flag (filter_of h)
    ∷ [])

-- ---- ranges

-- The elements are in range under these sets, and those that are absent are 0, false, None or empty. What 7.4.1 and 7.4.3
-- ask of a header beyond that isn't judged here: first_mb_in_slice within the picture; of an IDR picture that frame_num is 0,
-- that its slices are I slices and that nal_ref_idc isn't 0; and the bounds of the operands of reference marking and of the
-- modifications of lists.
pub record HeaderFits (active : Active) (h : Header) : Type 0 where
  pub first_mb_in_slice : h.first_mb_in_slice ≤ 139263
  pub slice_type : h.slice_type ≤ 9
  pub in_scope : is_switching h.slice_type ≡ false
  pub pic_parameter_set_id : h.pic_parameter_set_id ≤ 255
  pub picture : PictureFits active.sps h.nal (picture_of h)
  pub order : OrderFits active h.field_pic_flag (order_of h)
  pub references : ReferencesFit active.pps h.slice_type h.field_pic_flag (references_of h)
  pub lists : ListsFit active.pps h.slice_type (references_of h) (lists_of h)
  pub marking : MarkingFits h.nal (marking_of h)
  pub cabac_init_idc : IsInWhen (has_init active.pps h.slice_type) (Ue 2) 0 h.cabac_init_idc
  pub slice_qp_delta : IsDelta h.slice_qp_delta
  pub slice_qp : is_qp (slice_qp_y active.pps h.slice_qp_delta) ≡ true
  pub filter : DeblockingFits active.pps.deblocking_filter_control_present_flag (filter_of h)

-- ---- under the sets that stand

-- a picture parameter set's number names these sets
pub record Names (sets : SetMaps) (pic_parameter_set_id : ℕ) (active : Active) : Type 0 where
  pub pps : find_pps pic_parameter_set_id sets ≡ Some active.pps
  pub sps : find_sps active.pps.seq_parameter_set_id sets ≡ Some active.sps

-- the sets that the header names stand, and it is in range under them
abbrev pub IsUnder : SetMaps → Header → Type 0
IsUnder sets h = (active : Active) × Names sets h.pic_parameter_set_id active × HeaderFits active h

-- they are allowed: blocks of 8x8 aren't used under Main
abbrev pub IsAllowed : Active → Type 0
IsAllowed active = breaks_main active ≡ false

-- the bits begin with the text of this header, and these follow
abbrev pub HeaderText : SetMaps → ℕ → Header → List Bool → List Bool → Type 0
HeaderText sets nal h bits rest = Spells (slice_header sets nal) bits (Found h rest)

-- they begin with the text of elements up to one that is refused so
abbrev pub IsRefusedHeader : SetMaps → ℕ → Refusal → List Bool → Type 0
IsRefusedHeader sets nal cause bits = Spells (slice_header sets nal) bits (Refused cause)

-- what a reader answers of these bits, and leaves; NoReading says that they begin neither with a header's text nor with
-- elements up to one that is refused
abbrev pub ReadsHeader : SetMaps → ℕ → Result Header HeaderFault → List Bool → List Bool → Type 0
ReadsHeader sets nal (Ok h) bits rest = HeaderText sets nal h bits rest
ReadsHeader sets nal (Err NoReading) bits rest = (outcome : Outcome Refusal Header) → ¬ Spells (slice_header sets nal) bits outcome
ReadsHeader sets nal (Err (MissingPps number)) bits rest = IsRefusedHeader sets nal (NoPps number) bits
ReadsHeader sets nal (Err (MissingSps number)) bits rest = IsRefusedHeader sets nal (NoSps number) bits
ReadsHeader sets nal (Err Profile) bits rest = IsRefusedHeader sets nal OutsideProfile bits
ReadsHeader sets nal (Err Memory) bits rest = Unit {0}

-- ---- the same header and sets for another layer, under another number, with another table of initial states

abbrev pub header_in : Layer → ℕ → ℕ → Header → Header
header_in layer number idc h = record h { pic_parameter_set_id = number; cabac_init_idc = if mode_flag_of layer && not (is_i h.slice_type) then idc else 0 }

abbrev pub active_in : Layer → ℕ → Active → Active
active_in layer number active = record active { pps = pps_in layer number active.pps }

-- without the constraint flags that a change of the layer may break
abbrev pub unconstrained : Active → Active
unconstrained active = record active { sps = without_constraints active.sps }
