-- What ends the recoding of a stream, and the items before it.
use Rattle.std.specs.Prelude.{◌≡◌, ◌⊎◌, ℕ, ◌-◌, ◌^◌, min, Bool, true, false, ◌||◌, ◌==◌, if◌then◌else◌, List, [], ◌∷◌, drop, length, Option, Some, None, option_map}
use Rattle.bit_texts.specs.Bits.{bits_of}
use Rattle.exp_golomb.specs.EmulationPrevention.{IsEscape}
use Rattle.exp_golomb.specs.Syntax.{Syntax, Outcome, Found, Refused, Spells}
use Rattle.h264_types.specs.declared.fault.Why.{Why}
use Rattle.h264_types.specs.declared.fault.Why.TheVariants.{Kind as BadKind, Unbuilt, Escape, Sps as BadSps, Pps as BadPps, Profile as BadProfile, Limit as BadLimit, Header as BadHeader, MissingSps, MissingPps, Slice as BadSlice}
use Rattle.h264_types.specs.declared.fault.Case.{Case}
use Rattle.h264_types.specs.declared.fault.Case.TheVariants.{Number}
use Rattle.h264_types.specs.declared.fault.Stopped.{Stopped}
use Rattle.h264_types.specs.declared.fault.Stopped.TheVariants.{Stop as StopAt, Outside as OutsideAt, Memory as NoMemory}
use Rattle.h264_types.specs.declared.layer.Layer.{Layer}
use Rattle.init_table.specs.declared.table.InitTable.{InitTable}
use Rattle.h264_types.specs.declared.slice_shape.SliceShape.{SliceShape}
use Rattle.h264_types.specs.Units.{Seen}
use Rattle.param_sets.specs.PictureParameterSet.{pic_parameter_set}
use Rattle.param_sets.specs.Refusal.{Refusal, OutsideProfile, AboveLimit}
use Rattle.param_sets.specs.SequenceParameterSet.{seq_parameter_set}
use Rattle.param_sets.specs.Sets.{SetMaps}
use Rattle.slice_header.specs.HeaderCodes.{Names}
use Rattle.header_parts.specs.Refusal.{Refusal as HeaderRefusal, OutsideProfile as OutsideMain, NoPps, NoSps}
use Rattle.slice_header.specs.Shape.{shape_of}
use Rattle.header_parts.specs.ActiveSets.{Active}
use Rattle.slice_header.specs.SliceHeader.{slice_header}
use Rattle.header_parts.specs.declared.header.Header.{Header}
use Rattle.slice_rewrite.specs.Layers.{layer_of, NoDataIn}
use Rattle.slice_rewrite.specs.Options.{Options}
use Rattle.slice_rewrite.specs.declared.kinds.UnitKind.{UnitKind}
use Rattle.slice_rewrite.specs.declared.kinds.UnitKind.TheVariants.{Slice as IsSlice, Sps as IsSps, Pps as IsPps, Refused as IsRefused}
use Rattle.slice_rewrite.specs.Items.{header_of, kind_of, Slice, Item, Carried, TheSps, ThePps, TheSlice, sets_behind, is_unbuilt, IsItem}
use Rattle.slice_rewrite.specs.Periods.{is_in_range}
use Rattle.slice_rewrite.specs.Stops.{slice_stop}

-- the number of a unit, which stands still at the greatest u64
abbrev pub unit_number : ℕ → ℕ
unit_number n = min n (2 ^ 64 - 1)

-- ## Units without an item, and why: the first reason in this order

abbrev pub why_of : Refusal → Why
why_of OutsideProfile = BadProfile
why_of AboveLimit = BadLimit

abbrev pub why_of_header : HeaderRefusal → Why
why_of_header OutsideMain = BadProfile
why_of_header (NoPps number) = MissingPps number
why_of_header (NoSps number) = MissingSps number

-- The bits have no reading by this syntax, which is named so, or an element is refused.
abbrev pub IsNoText : {E A : Type 0} → (E → Why) → Why → Syntax E A → List Bool → Why → Type 0
IsNoText {E} {A} named none syntax bits why =
    ((why ≡ none) × ((outcome : Outcome E A) → ¬ Spells syntax bits outcome))
    ⊎ ((cause : E) × (why ≡ named cause) × Spells syntax bits (Refused cause))

-- A slice that isn't recoded yet is refused as such; else the bits behind its header, with so many bits before them, are
-- no slice data in its layer.
abbrev pub IsNoData : Bool → Layer → InitTable → SliceShape → ℕ → List Bool → Why → Type 0
IsNoData true layer init shape pos rest why = why ≡ Unbuilt
IsNoData false layer init shape pos rest why = (why ≡ BadSlice) × NoDataIn layer init shape pos rest

-- the bits begin with a slice header, and what follows are no slice data
pub record HasNoData (to : Layer) (init : InitTable) (sets : SetMaps) (header : ℕ) (bits : List Bool) (why : Why) : Type 0 where
  pub h : Header
  pub active : Active
  pub names : Names sets h.pic_parameter_set_id active
  pub rest : List Bool
  pub header_is : Spells (slice_header sets header) bits (Found h rest)
  pub none : IsNoData (is_unbuilt to active h) (layer_of active) init (shape_of active h) (length bits - length rest) rest why

-- they begin with no header, or hold no data
abbrev pub IsNoSlice : Layer → InitTable → SetMaps → ℕ → List Bool → Why → Type 0
IsNoSlice to init sets header bits why = IsNoText why_of_header BadHeader (slice_header sets header) bits why ⊎ HasNoData to init sets header bits why

-- a unit of this kind and with this header byte has a payload that has no reading
abbrev pub IsRefusedPayload : Layer → InitTable → SetMaps → UnitKind → ℕ → List ℕ → Why → Type 0
IsRefusedPayload to init sets IsSps header payload why = IsNoText why_of BadSps seq_parameter_set (bits_of payload) why
IsRefusedPayload to init sets IsPps header payload why = IsNoText why_of BadPps pic_parameter_set (bits_of payload) why
IsRefusedPayload to init sets IsSlice header payload why = IsNoSlice to init sets header (bits_of payload) why
IsRefusedPayload to init sets _ header payload why = ⊥

-- the unit has no payload, or one that has no reading
abbrev pub IsRefusedEscape : Layer → InitTable → SetMaps → UnitKind → List ℕ → Why → Type 0
IsRefusedEscape to init sets kind unit why =
    ((why ≡ Escape) × ((payload : List ℕ) → IsEscape payload (drop 1 unit) → ⊥))
    ⊎ ((payload : List ℕ) × IsEscape payload (drop 1 unit) × IsRefusedPayload to init sets kind (header_of unit) payload why)

-- a unit of this kind has no item, for this reason
abbrev pub IsRefusedUnit : Layer → InitTable → SetMaps → UnitKind → List ℕ → Why → Type 0
IsRefusedUnit to init sets IsRefused unit why = why ≡ BadKind
IsRefusedUnit to init sets kind unit why = IsRefusedEscape to init sets kind unit why

abbrev pub Refuses : Layer → InitTable → SetMaps → List ℕ → Why → Type 0
Refuses to init sets unit why = IsRefusedUnit to init sets (kind_of unit) unit why

-- ## Stops

-- a picture parameter set of this number stands among these items
abbrev pub has_pps : List Item → ℕ → Bool
has_pps [] number = false
has_pps (Carried unit ∷ items) number = has_pps items number
has_pps (TheSps header sps ∷ items) number = has_pps items number
has_pps (TheSlice slice ∷ items) number = has_pps items number
has_pps (ThePps header pps ∷ items) number = (pps.pic_parameter_set_id == number) || has_pps items number

-- in a partial run the other number of a picture parameter set is taken
abbrev pub number_stop : Option (ℕ × ℕ) → Bool → Option (Case × ℕ)
number_stop None taken = None
number_stop (Some range) taken = if taken then Some (Number, 0) else None

-- a slice that isn't recoded can be written as it was read
abbrev pub recoded_stop : Bool → Layer → Slice → Option (Case × ℕ)
recoded_stop true to s = slice_stop to s
recoded_stop false to s = None

-- why an item can't be written behind those before it, and the number of the macroblock
abbrev pub stop_of : Options → List Item → Item → Option (Case × ℕ)
stop_of o before (Carried unit) = None
stop_of o before (TheSps header sps) = None
stop_of o before (TheSlice slice) = recoded_stop (is_in_range o.range before slice) o.to slice
stop_of o before (ThePps header pps) = number_stop o.range (has_pps before (255 - pps.pic_parameter_set_id))

-- ## Streams

-- What becomes of these units, behind those that were read as the items before, the last one first, and of the fault
-- behind them: the items of those before the verdict, and the verdict.
abbrev pub Judges : Options → List Item → List (List ℕ) → Option Why → List Item → Option Stopped → Type 0
Judges o before (u ∷ us) fault (i ∷ items) verdict = IsItem o.to o.init (sets_behind before) u i × (stop_of o before i ≡ None) × Judges o (i ∷ before) us fault items verdict
Judges o before (u ∷ us) fault [] (Some (OutsideAt m why)) = (m ≡ unit_number (length before)) × Refuses o.to o.init (sets_behind before) u why
Judges o before (u ∷ us) fault [] (Some (StopAt case place)) =
    (place.unit ≡ unit_number (length before)) × ((i : Item) × IsItem o.to o.init (sets_behind before) u i × (stop_of o before i ≡ Some (case, place.mb)))
Judges o before (u ∷ us) fault [] (Some NoMemory) = ⊥
Judges o before (u ∷ us) fault [] None = ⊥
Judges o before [] fault [] verdict = verdict ≡ option_map (OutsideAt (unit_number (length before))) fault
Judges o before [] fault (i ∷ items) verdict = ⊥

-- what becomes of all that is seen
abbrev pub Recodes : Options → Seen → List Item → Option Stopped → Type 0
Recodes o s items verdict = Judges o [] s.units s.fault items verdict
