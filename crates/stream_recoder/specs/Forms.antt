-- What is written for a unit that is read behind other items.
use Rattle.std.specs.Prelude.{◌≡◌, ◌⊎◌, ℕ, ◌-◌, Bool, true, List, ◌∷◌, length, Option, Some, None, is_some}
use Rattle.h264_types.specs.declared.fault.Why.{Why}
use Rattle.h264_types.specs.declared.fault.Why.TheVariants.{Profile as BadProfile, Limit as BadLimit}
use Rattle.param_sets.specs.Sets.{SetMaps, find_pps}
use Rattle.param_sets.specs.declared.fault.SetFault.{SetFault}
use Rattle.param_sets.specs.declared.fault.SetFault.TheVariants.{NoReading, Profile, Limit, Memory as NoRoom}
use Rattle.slice_rewrite.specs.declared.fault.RewriteFault.{RewriteFault}
use Rattle.slice_rewrite.specs.declared.fault.RewriteFault.TheVariants.{Outside, Stop, Memory}
use Rattle.slice_rewrite.specs.Options.{Options}
use Rattle.slice_rewrite.specs.Items.{Slice, Item, sets_behind, IsSliceOf, IsItem}
use Rattle.slice_rewrite.specs.Stops.{slice_stop}
use Rattle.slice_rewrite.specs.Verdict.{Refuses, number_stop, stop_of}
use Rattle.slice_rewrite.specs.Written.{IsFormOf, macroblocks_of}
use Rattle.slice_rewrite.specs.declared.pick.Tries.{Tries}
use Rattle.stream_recoder.specs.Periods.{AreBegun}
use Rattle.stream_recoder.specs.Written.{GoesOn, GoesOnBy, GoesBy}
use Rattle.stream_recoder.specs.declared.periods.Periods.{Periods}

-- these are the sets that stand behind these items, of which the last one comes first, and the periods that have begun
pub record AreBehind (before : List Item) (sets : SetMaps) (periods : Periods) : Type 0 where
  pub sets_are : sets ≡ sets_behind before
  pub begun : AreBegun before periods

-- the unit is read as some item, these bytes are written for it, and this is what stands behind it
pub record IsForm (o : Options) (before : List Item) (sets : SetMaps) (periods : Periods) (unit form : List ℕ) (macroblocks : ℕ) : Type 0 where
  pub item : Item
  pub read : IsItem o.to o.init (sets_behind before) unit item
  pub goes_on : stop_of o before item ≡ None
  pub stand : AreBehind (item ∷ before) sets periods
  pub count : macroblocks ≡ macroblocks_of item
  pub bytes : IsFormOf o before unit item form

-- the same, and the pick goes on
pub record IsPickedForm {P : Type 0} (tried : P → Tries) (step : P → List ℕ → ℕ → P → Type 0) (o : Options) (before : List Item) (sets : SetMaps) (periods : Periods) (unit form : List ℕ) (macroblocks : ℕ) (old new : P) : Type 0 where
  pub form_is : IsForm o before sets periods unit form macroblocks
  pub pick : GoesOn tried step o before form_is.item form old new

-- behind a refusal the pick is as before, but where memory was wanting it may have gone on with the unit
abbrev pub IsPickBehind : {P : Type 0} → (P → Tries) → (P → List ℕ → ℕ → P → Type 0) → Options → List Item → List ℕ → RewriteFault → P → P → Type 0
IsPickBehind tried step o before unit (Outside why) old new = new ≡ old
IsPickBehind tried step o before unit (Stop case k) old new = new ≡ old
IsPickBehind tried step o before unit Memory old new = (new ≡ old) ⊎ GoesBy tried step o before unit old new

-- the unit has no item, or one that can't be written behind these items, or there is no memory
abbrev pub IsRefusal : Options → List Item → List ℕ → RewriteFault → Type 0
IsRefusal o before unit (Outside why) = Refuses o.to o.init (sets_behind before) unit why
IsRefusal o before unit (Stop case k) = (item : Item) × IsItem o.to o.init (sets_behind before) unit item × (stop_of o before item ≡ Some (case, k))
IsRefusal o before unit Memory = Unit {0}

-- ## Picture parameter sets

-- a set with the other number stands, under which one of this number is written in a partial run
abbrev pub is_taken : SetMaps → ℕ → Bool
is_taken sets number = is_some (find_pps (255 - number) sets)

-- why the set of this number can't be written under these sets
abbrev pub IsPpsRefusal : Option (ℕ × ℕ) → SetMaps → ℕ → RewriteFault → Type 0
IsPpsRefusal range sets number (Outside why) = ⊥
IsPpsRefusal range sets number (Stop case k) = number_stop range (is_taken sets number) ≡ Some (case, k)
IsPpsRefusal range sets number Memory = Unit {0}

-- ## Slices

-- the bits are those of a slice that can be written, this is written for it in the wanted layer, and the pick goes on
pub record IsRecodedForm {P : Type 0} (tried : P → Tries) (step : P → List ℕ → ℕ → P → Type 0) (o : Options) (sets : SetMaps) (header : ℕ) (bits : List Bool) (form : List ℕ) (macroblocks : ℕ) (old new : P) : Type 0 where
  pub slice : Slice
  pub read : IsSliceOf o.to o.init sets header bits slice
  pub goes_on : slice_stop o.to slice ≡ None
  pub count : macroblocks ≡ length slice.mbs
  pub pick : GoesOnBy tried step true o slice form old new

-- the pick behind a slice that isn't written: as before, but where memory was wanting it may have gone on with it
abbrev pub IsRecodedBehind : {P : Type 0} → (P → Tries) → (P → List ℕ → ℕ → P → Type 0) → Options → SetMaps → ℕ → List Bool → RewriteFault → P → P → Type 0
IsRecodedBehind tried step o sets header bits (Outside why) old new = new ≡ old
IsRecodedBehind tried step o sets header bits (Stop case k) old new = new ≡ old
IsRecodedBehind tried step o sets header bits Memory old new = (new ≡ old) ⊎ ((form : List ℕ) × (macroblocks : ℕ) × IsRecodedForm tried step o sets header bits form macroblocks old new)

-- why a parameter set isn't read; where its bits have no reading this is the name of that
abbrev pub set_fault : Why → SetFault → RewriteFault
set_fault unread NoReading = Outside unread
set_fault unread Profile = Outside BadProfile
set_fault unread Limit = Outside BadLimit
set_fault unread NoRoom = Memory
