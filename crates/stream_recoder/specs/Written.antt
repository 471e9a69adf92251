-- What is written for the units of a stream, with the event of each.
use Rattle.std.specs.Prelude.{◌≡◌, ◌⊎◌, ℕ, Bool, true, false, List, [], ◌∷◌, length, map, None}
use Rattle.std.specs.List.{concat}
use Rattle.stream_taps.specs.declared.event.Event.{Event}
use Rattle.slice_rewrite.specs.Options.{Options}
use Rattle.slice_rewrite.specs.Items.{unit_type, Slice, Item, Carried, TheSps, ThePps, TheSlice, IsItem, sets_behind}
use Rattle.slice_rewrite.specs.Periods.{is_in_range, number_in}
use Rattle.slice_rewrite.specs.Picks.{Picks}
use Rattle.slice_rewrite.specs.Verdict.{stop_of}
use Rattle.slice_rewrite.specs.Written.{macroblocks_of, with_start_code, IsFormOf, IsTriedUnit}
use Rattle.slice_rewrite.specs.declared.pick.Tries.{Tries}

-- the bytes that are written for a unit, and the event of it
pub record Written : Type 0 where
  pub form : List ℕ
  pub event : Event

abbrev pub event_of : List ℕ → Item → List ℕ → Event
event_of unit i form = record {
  kind = unit_type unit;
  macroblocks = macroblocks_of i;
  bytes_in = length unit;
  bytes_out = length form;
}

-- this is written for a unit, which is read as this item behind those items, of which the last one comes first
pub record IsWritten (o : Options) (before : List Item) (unit : List ℕ) (i : Item) (w : Written) : Type 0 where
  pub form : IsFormOf o before unit i w.form
  pub event : w.event ≡ event_of unit i w.form

-- ## The pick

module _ {P : Type 0} (tried : P → Tries) (step : P → List ℕ → ℕ → P → Type 0) where
  -- a slice that is recoded is written under a number of the pick, which goes on where it was asked; with another one it stays
  abbrev pub GoesOnBy : Bool → Options → Slice → List ℕ → P → P → Type 0
  GoesOnBy true o s form old new =
      let number = number_in o.range s.header.pic_parameter_set_id in
      (idc : ℕ) × (unit : List ℕ) × IsTriedUnit o number idc s unit × (form ≡ with_start_code unit) × Picks tried step o.to o.init number s idc old new
  GoesOnBy false o s form old new = new ≡ old

  -- this is written for an item behind those items, of which the last one comes first; with one that is no slice the pick stays
  abbrev pub GoesOn : Options → List Item → Item → List ℕ → P → P → Type 0
  GoesOn o before (TheSlice s) form old new = GoesOnBy (is_in_range o.range before s) o s form old new
  GoesOn o before (Carried unit) form old new = new ≡ old
  GoesOn o before (TheSps header sps) form old new = new ≡ old
  GoesOn o before (ThePps header pps) form old new = new ≡ old

  -- unit by unit, as these items, for which this is written
  abbrev pub GoesAlong : Options → List Item → List Item → List Written → P → P → Type 0
  GoesAlong o before (i ∷ items) (w ∷ written) old new = (between : P) × GoesOn o before i w.form old between × GoesAlong o (i ∷ before) items written between new
  GoesAlong o before [] [] old new = new ≡ old
  GoesAlong o before (i ∷ items) [] old new = ⊥
  GoesAlong o before [] (w ∷ written) old new = ⊥

  -- with this unit, which is read as an item that can be written
  pub record GoesBy (o : Options) (before : List Item) (unit : List ℕ) (old new : P) : Type 0 where
    pub item : Item
    pub read : IsItem o.to o.init (sets_behind before) unit item
    pub goes_on : stop_of o before item ≡ None
    pub form : List ℕ
    pub form_is : IsFormOf o before unit item form
    pub pick : GoesOn o before item form old new

  -- with the first of these units at most
  abbrev pub GoesAtMost : Options → List Item → List (List ℕ) → P → P → Type 0
  GoesAtMost o before [] old new = new ≡ old
  GoesAtMost o before (unit ∷ units) old new = (new ≡ old) ⊎ GoesBy o before unit old new

-- ## Units, one after another

-- one for each unit that is read, as these items, behind those items, of which the last one comes first
abbrev pub AreWritten : Options → List Item → List (List ℕ) → List Item → List Written → Type 0
AreWritten o before [] items written = written ≡ []
AreWritten o before (u ∷ us) [] written = written ≡ []
AreWritten o before (u ∷ us) (i ∷ items) [] = ⊥
AreWritten o before (u ∷ us) (i ∷ items) (w ∷ written) = IsWritten o before u i w × AreWritten o (i ∷ before) us items written

abbrev pub forms : List Written → List ℕ
forms written = concat (map (λ w. w.form) written)
