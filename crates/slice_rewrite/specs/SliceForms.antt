-- What is written for a slice, and why nothing is.
use Rattle.std.specs.Prelude.{◌≡◌, ℕ, Bool, false, List, [], ◌∷◌, ◌++◌, ◌≤◌, length, map, Option, Some, None, Result, Ok, Err}
use Rattle.std.specs.declared.alloc.AllocError.{AllocError}
use Rattle.bit_texts.specs.Bits.{bits_of}
use Rattle.h264_types.specs.Valid.{IsSlice}
use Rattle.h264_types.specs.declared.fault.Case.{Case}
use Rattle.h264_types.specs.declared.fault.Why.TheVariants.{Slice as BadSlice}
use Rattle.h264_types.specs.declared.layer.Layer.{Layer}
use Rattle.h264_types.specs.declared.layer.Layer.TheVariants.{Cavlc}
use Rattle.h264_types.specs.declared.macroblock.Mb.{Mb}
use Rattle.init_table.specs.declared.table.InitTable.{InitTable}
use Rattle.h264_types.specs.SliceShape.{without_column}
use Rattle.h264_types.specs.declared.slice_shape.SliceShape.{SliceShape}
use Rattle.param_sets.specs.PpsCodes.{IsPps}
use Rattle.param_sets.specs.Sets.{SetMaps}
use Rattle.param_sets.specs.SpsCodes.{IsSps}
use Rattle.slice_header.specs.HeaderCodes.{HeaderFits, HeaderText, Names}
use Rattle.slice_data.specs.Reading.{NoList}
use Rattle.slice_header.specs.Shape.{shape_of}
use Rattle.header_parts.specs.ActiveSets.{Active, active_view}
use Rattle.header_parts.specs.declared.header.Header.{Header}
use Rattle.slice_rewrite.specs.declared.fault.RewriteFault.{RewriteFault}
use Rattle.slice_rewrite.specs.declared.fault.RewriteFault.TheVariants.{Outside, Stop, Memory}
use Rattle.slice_rewrite.specs.declared.opening.OpenSlice.{OpenSlice}
use Rattle.slice_rewrite.specs.Items.{Slice, is_unbuilt, IsSliceOf}
use Rattle.slice_rewrite.specs.Stops.{is_level_beyond, mb_stop, least_stop, slice_stop}
use Rattle.slice_rewrite.specs.Verdict.{IsNoSlice}
use Rattle.slice_rewrite.specs.Layers.{HasDataIn, IsDataIn, IsBuiltIn}
use Rattle.slice_rewrite.specs.Options.{Options, IsTried}
use Rattle.slice_rewrite.specs.Written.{slice_under, IsSliceBits}
use Rattle.slice_data.specs.WrittenForm.{written_mb}

-- ## Whole slices

-- the bits are those of a slice that can be written, this payload is written for it, and so many macroblocks it has
pub record IsSliceForm (o : Options) (number : ℕ) (sets : SetMaps) (header : ℕ) (bits : List Bool) (payload : List ℕ) (macroblocks : ℕ) : Type 0 where
  pub slice : Slice
  pub read : IsSliceOf o.to o.init sets header bits slice
  pub goes_on : slice_stop o.to slice ≡ None
  pub idc : ℕ
  pub tried : IsTried o.tries idc
  pub written : IsSliceBits o.init (slice_under o.to number idc slice) (bits_of payload)
  pub count : macroblocks ≡ length slice.mbs

-- the bits are those of no slice, or of one whose least macroblock that can't be written is this, or there is no memory
abbrev pub IsSliceRefusal : Layer → InitTable → SetMaps → ℕ → List Bool → RewriteFault → Type 0
IsSliceRefusal to init sets header bits (Outside why) = IsNoSlice to init sets header bits why
IsSliceRefusal to init sets header bits (Stop case k) = (slice : Slice) × IsSliceOf to init sets header bits slice × (slice_stop to slice ≡ Some (case, k))
IsSliceRefusal to init sets header bits Memory = Unit {0}

-- a slice of these parts
abbrev pub coded : Active → Header → List Mb → Slice
coded active h mbs = record { header = h; active = active; mbs = mbs }

-- the bits are those of the slice of this header and these macroblocks, under the sets that it names
abbrev pub IsSliceRead : InitTable → SetMaps → ℕ → List Bool → Header → List Mb → Type 0
IsSliceRead init sets header bits h mbs = (active : Active) × IsSliceOf Cavlc init sets header bits (coded active h mbs)

-- the bits are those of a slice with so many macroblocks
abbrev pub IsCounted : Layer → InitTable → SetMaps → ℕ → List Bool → ℕ → Type 0
IsCounted to init sets header bits count = (slice : Slice) × IsSliceOf to init sets header bits slice × (count ≡ length slice.mbs)

-- the bits are those of no slice, or there is no memory
abbrev pub IsNotRead : Layer → InitTable → SetMaps → ℕ → List Bool → RewriteFault → Type 0
IsNotRead to init sets header bits (Outside why) = IsNoSlice to init sets header bits why
IsNotRead to init sets header bits (Stop case k) = ⊥
IsNotRead to init sets header bits Memory = Unit {0}

-- the same, whatever the table of initial pairs
abbrev pub IsNotOpened : Layer → SetMaps → ℕ → List Bool → RewriteFault → Type 0
IsNotOpened to sets header bits fault = (init : InitTable) → IsNotRead to init sets header bits fault

-- the sets that were found for it
abbrev pub sets_in : OpenSlice → Active
sets_in s = active_view s.active

-- the header of a slice whose data can be read was read, with the sets that it names, and the bits behind it are left
pub record IsOpened (to : Layer) (sets : SetMaps) (header : ℕ) (bits : List Bool) (s : OpenSlice) : Type 0 where
  pub text : HeaderText sets header s.header bits s.bits.left
  pub names : Names sets s.header.pic_parameter_set_id (sets_in s)
  pub fits : HeaderFits (sets_in s) s.header
  pub in_range : IsSps (sets_in s).sps × IsPps (sets_in s).pps
  pub built : is_unbuilt to (sets_in s) s.header ≡ false
  pub shape : s.shape ≡ shape_of (sets_in s) s.header
  pub kept : s.bits.taken ++ s.bits.left ≡ bits

-- a slice under these sets: its header is in range, and the macroblocks are those of a slice of its shape, which is one that
-- is written in this layer
pub record IsUnderSets (to : Layer) (sets : SetMaps) (active : Active) (h : Header) (mbs : List Mb) : Type 0 where
  pub names : Names sets h.pic_parameter_set_id active
  pub fits : HeaderFits active h
  pub built : IsBuiltIn to (shape_of active h)
  pub are : IsSlice (shape_of active h) mbs

-- the payload that is written for it, where it can be written
pub record IsSliceWritten (to : Layer) (init : InitTable) (number idc : ℕ) (s : Slice) (payload : List ℕ) : Type 0 where
  pub goes_on : slice_stop to s ≡ None
  pub written : IsSliceBits init (slice_under to number idc s) (bits_of payload)

-- the least macroblock that can't be written is this, or there is no memory
abbrev pub IsNotWritten : Layer → Slice → RewriteFault → Type 0
IsNotWritten to s (Outside why) = ⊥
IsNotWritten to s (Stop case k) = slice_stop to s ≡ Some (case, k)
IsNotWritten to s Memory = Unit {0}

-- ## Slice data, of any layer and for any layer. Of the layer that is read `HasData` says which lists of macroblocks have data,
-- and `IsData` which bits these are, with so many before them; of the layer that is written `IsWritten` does. The shapes that a
-- slice is read and written in differ at most in their columns.

-- the bits left, with so many before them, are the data of a slice that can be written, which were written again behind others
pub record IsCopy (HasData : SliceShape → List Mb → Type 0) (IsData IsWritten : SliceShape → ℕ → List Mb → List Bool → Type 0) (to : Layer) (shape written_shape : SliceShape) (pos : ℕ) (left before after : List Bool) (count : ℕ) : Type 0 where
  pub mbs : List Mb
  pub list : HasData shape mbs
  pub read : IsData shape pos mbs left
  pub goes_on : least_stop to shape mbs ≡ None
  pub text : List Bool
  pub is_text : IsWritten written_shape (length before) (map (written_mb to) mbs) text
  pub written : after ≡ before ++ text
  pub counted : count ≡ length mbs

-- they are those of a slice that stops so, or of none, or there is no memory
abbrev pub IsNoCopy : (SliceShape → List Mb → Type 0) → (SliceShape → ℕ → List Mb → List Bool → Type 0) → Layer → SliceShape → ℕ → List Bool → RewriteFault → Type 0
IsNoCopy HasData IsData to shape pos left (Outside why) = (why ≡ BadSlice) × NoList HasData IsData shape pos left
IsNoCopy HasData IsData to shape pos left (Stop case k) = (mbs : List Mb) × HasData shape mbs × IsData shape pos mbs left × (least_stop to shape mbs ≡ Some (case, k))
IsNoCopy HasData IsData to shape pos left Memory = Unit {0}

-- the same by the layer that is read
abbrev pub IsCopyIn : Layer → InitTable → (SliceShape → ℕ → List Mb → List Bool → Type 0) → Layer → SliceShape → SliceShape → ℕ → List Bool → List Bool → List Bool → ℕ → Type 0
IsCopyIn layer init IsWritten = IsCopy (HasDataIn layer) (IsDataIn layer init) IsWritten

abbrev pub IsNoCopyIn : Layer → InitTable → Layer → SliceShape → ℕ → List Bool → RewriteFault → Type 0
IsNoCopyIn layer init = IsNoCopy (HasDataIn layer) (IsDataIn layer init)

-- the data are those of no slice, or there is no memory
abbrev pub IsNoDataRead : (SliceShape → List Mb → Type 0) → (SliceShape → ℕ → List Mb → List Bool → Type 0) → SliceShape → ℕ → List Bool → RewriteFault → Type 0
IsNoDataRead HasData IsData shape pos left (Outside why) = (why ≡ BadSlice) × NoList HasData IsData shape pos left
IsNoDataRead HasData IsData shape pos left (Stop case k) = ⊥
IsNoDataRead HasData IsData shape pos left Memory = Unit {0}

-- they are those of so many macroblocks
abbrev pub AreDataCounted : (SliceShape → List Mb → Type 0) → (SliceShape → ℕ → List Mb → List Bool → Type 0) → SliceShape → ℕ → List Bool → ℕ → Type 0
AreDataCounted HasData IsData shape pos left count = (mbs : List Mb) × HasData shape mbs × IsData shape pos mbs left × (count ≡ length mbs)

-- these macroblocks can be written, and their data were, behind others
pub record IsDataWritten (IsWritten : SliceShape → ℕ → List Mb → List Bool → Type 0) (to : Layer) (shape : SliceShape) (mbs : List Mb) (before after : List Bool) : Type 0 where
  pub goes_on : least_stop to shape mbs ≡ None
  pub text : List Bool
  pub is_text : IsWritten shape (length before) (map (written_mb to) mbs) text
  pub written : after ≡ before ++ text

-- the least of them that can't be written is this, or there is no memory
abbrev pub IsNoDataWritten : Layer → SliceShape → List Mb → RewriteFault → Type 0
IsNoDataWritten to shape mbs (Outside why) = ⊥
IsNoDataWritten to shape mbs (Stop case k) = least_stop to shape mbs ≡ Some (case, k)
IsNoDataWritten to shape mbs Memory = Unit {0}

-- what the end of slice data says: the writer's data were ended, or the stop is told
abbrev pub Ends : {W S : Type 0} → (W → SliceShape → List Bool → List Mb → Type 0) → (SliceShape → ℕ → List Mb → List Bool → Type 0) → (S → List Bool) → W → Option (Case × ℕ) → ℕ → Result (S × ℕ) RewriteFault → Type 0
Ends Writes IsWritten bits writer None count (Ok copy) = (copy.1 ≡ count)
    × ((shape : SliceShape) (before : List Bool) (done : List Mb) → Writes writer shape before done → (text : List Bool) × IsWritten shape (length before) done text × (bits copy.0 ≡ before ++ text))
Ends Writes IsWritten bits writer None count (Err fault) = fault ≡ Memory
Ends Writes IsWritten bits writer (Some stop) count result = result ≡ Err (Stop stop.0 stop.1)

-- what putting a macroblock in its written form says: it was put, or it can't be written and wasn't, or there is no memory
abbrev pub PutsWritten : {W : Type 0} → (W → SliceShape → List Bool → List Mb → Type 0) → Layer → W → SliceShape → List Bool → List Mb → Mb → Result (Option Case) AllocError → Type 0
PutsWritten Writes to new shape before done mb (Ok None) = (mb_stop to shape mb ≡ None) × Writes new shape before (done ++ written_mb to mb ∷ [])
PutsWritten Writes to new shape before done mb (Ok (Some case)) = (mb_stop to shape mb ≡ Some case) × Writes new shape before done
PutsWritten Writes to new shape before done mb (Err fault) = Unit {0}

-- of a writer that can't say the levels that its layer can't
abbrev pub StopsIn : Layer → (SliceShape → Mb → Bool) → Type 0
StopsIn to is_beyond = (shape : SliceShape) (mb : Mb) → is_beyond shape mb ≡ is_level_beyond to shape mb

-- the shape of the same slice, but for the column of the contexts of CABAC
pub record IsOtherColumn (shape other : SliceShape) : Type 0 where
  pub same : without_column shape ≡ without_column other
  pub column : other.column ≤ 3
