-- What a recoder holds, by the bytes that it was fed and what was drained from it.
use Rattle.std.specs.Prelude.{◌≡◌, ◌⊎◌, ℕ, ◌+◌, List, [], ◌∷◌, ◌++◌, length, map, Option, Some, None}
use Rattle.std.specs.VecDeque.{deque_len}
use Rattle.h264_types.specs.declared.fault.Why.{Why}
use Rattle.h264_types.specs.declared.fault.Stopped.{Stopped}
use Rattle.h264_types.specs.declared.fault.Stopped.TheVariants.{Stop, Outside, Memory}
use Rattle.h264_types.specs.Units.{Seen, seen}
use Rattle.annexb_units.specs.Splitter.{StandsFor}
use Rattle.slice_rewrite.specs.Options.{Options, options}
use Rattle.slice_rewrite.specs.declared.pick.Tries.{Tries}
use Rattle.stream_recoder.specs.declared.recoder.Recoder.{Recoder}
use Rattle.slice_rewrite.specs.declared.fault.RewriteFault.{RewriteFault}
use Rattle.slice_rewrite.specs.declared.fault.RewriteFault.TheVariants.{Outside as OutsideFault, Stop as StopFault, Memory as NoMemory}
use Rattle.slice_rewrite.specs.Items.{Item, behind, sets_behind, IsItem}
use Rattle.slice_rewrite.specs.Verdict.{unit_number, Refuses, stop_of, Judges, Recodes}
use Rattle.stream_recoder.specs.Forms.{AreBehind}
use Rattle.stream_recoder.specs.Written.{Written, IsWritten, AreWritten, GoesOn, GoesAlong, GoesBy, GoesAtMost}

-- what is written and not drained yet
abbrev pub waiting : {P : Type 0} → Recoder P → List Written
waiting r = map (λ w. let v : Written = record { form = w.0.items; event = w.1 } in v) r.forms.items

-- how many written units wait
abbrev pub waiting_count : {P : Type 0} → Recoder P → ℕ
waiting_count r = deque_len r.forms

-- recoding has stopped, for good
abbrev pub IsStopped : {P : Type 0} → Recoder P → Stopped → Type 0
IsStopped r stopped = r.stopped ≡ Some stopped

-- how a fault of the unit of this number stops
abbrev pub stopped_at : ℕ → RewriteFault → Stopped
stopped_at n (OutsideFault why) = Outside n why
stopped_at n (StopFault case k) = Stop case record { unit = n; mb = k }
stopped_at n NoMemory = Memory

-- what the run of a recoder rests on
abbrev pub options_of : {P : Type 0} → (P → Tries) → Recoder P → Options
options_of tried r = options r.plan r.init (tried r.pick)

-- it stands behind these items, of which the last one comes first
abbrev pub StandsBehind : {P : Type 0} → List Item → Recoder P → Type 0
StandsBehind before r = AreBehind before r.sets r.periods

-- a unit that has no item, or one that can't be written, or no memory for what is written
abbrev pub IsRefusedBy : {P : Type 0} → (P → Tries) → Recoder P → List Item → List ℕ → Stopped → Type 0
IsRefusedBy tried old before unit (Outside n why) = (n ≡ old.units) × Refuses old.plan.to old.init (sets_behind before) unit why
IsRefusedBy tried old before unit Memory = Unit {0}
IsRefusedBy tried old before unit (Stop case place) = (place.unit ≡ old.units) × ((item : Item) × IsItem old.plan.to old.init (sets_behind before) unit item × (stop_of (options_of tried old) before item ≡ Some (case, place.mb)))

-- ## What it was fed and gave, and the pick that it began with. What a pick tries and how it goes on is given.

module _ {P : Type 0} (tried : P → Tries) (step : P → List ℕ → ℕ → P → Type 0) where
  -- These units were taken from the splitter, they are read as these items, and what is written for them was drained or
  -- waits. With each of them the pick went on.
  pub record Holds (first : P) (r : Recoder P) (fed : List ℕ) (taken : List (List ℕ)) (items : List Item) (drained : List Written) : Type 0 where
    pub splitter : StandsFor r.splitter fed taken
    pub judged : Judges (options_of tried r) [] taken None items None
    pub written : AreWritten (options_of tried r) [] taken items (drained ++ waiting r)
    pub count : r.units ≡ unit_number (length taken)
    pub stands : StandsBehind (behind items []) r
    pub picked : GoesAlong tried step (options_of tried r) [] items (drained ++ waiting r) first r.pick

  -- The recoder was fed these bytes, which have no verdict yet, and this was drained: it and what waits is what is written
  -- for the units that have ended.
  pub record HasRecoded (first : P) (r : Recoder P) (fed : List ℕ) (drained : List Written) : Type 0 where
    pub items : List Item
    pub holds : Holds first r fed (seen fed).units items drained
    pub sound : (seen fed).fault ≡ None
    pub on : r.stopped ≡ None

  -- the recoder was fed these bytes more
  abbrev pub RecodesMore : Recoder P → Recoder P → List ℕ → Type 0
  RecodesMore old new piece = (first : P) (fed : List ℕ) (drained : List Written) → HasRecoded first old fed drained → HasRecoded first new (fed ++ piece) drained

  -- this is the verdict of what is seen, and what is written for the units before it was drained or waits
  abbrev pub EndsAt : P → Recoder P → Recoder P → Seen → List Written → Stopped → Type 0
  EndsAt first old new s drained stopped =
      (items : List Item) × Recodes (options_of tried old) s items (Some stopped) × AreWritten (options_of tried old) [] s.units items (drained ++ waiting new)
      × GoesAlong tried step (options_of tried old) [] items (drained ++ waiting new) first new.pick

  -- what is written for some first units was drained or waits, and nothing that waited is lost; the pick may have gone on with the
  -- unit behind them
  abbrev pub RunsOut : P → Recoder P → Recoder P → Seen → List Written → Type 0
  RunsOut first old new s drained =
      (units : List (List ℕ)) × (later : List (List ℕ)) × (items : List Item) × (s.units ≡ units ++ later) × Judges (options_of tried old) [] units None items None
      × AreWritten (options_of tried old) [] units items (drained ++ waiting new) × ((more : List Written) × (waiting new ≡ waiting old ++ more))
      × ((last : P) × GoesAlong tried step (options_of tried old) [] items (drained ++ waiting new) first last × GoesAtMost tried step (options_of tried old) (behind items []) later last new.pick)

  -- recoding stopped in this piece: at the verdict of the bytes, or for want of memory
  abbrev pub RecodingStops : Recoder P → Recoder P → List ℕ → Stopped → Type 0
  RecodingStops old new piece (Outside unit why) = (first : P) (fed : List ℕ) (drained : List Written) → HasRecoded first old fed drained →
      EndsAt first old new (seen (fed ++ piece)) drained (Outside unit why)
  RecodingStops old new piece (Stop case place) = (first : P) (fed : List ℕ) (drained : List Written) → HasRecoded first old fed drained →
      EndsAt first old new (seen (fed ++ piece)) drained (Stop case place)
  RecodingStops old new piece Memory = (first : P) (fed : List ℕ) (drained : List Written) → HasRecoded first old fed drained →
      RunsOut first old new (seen (fed ++ piece)) drained

  -- this is the first of what waits, and it was drained
  pub record Drains (old new : Recoder P) (written : Written) : Type 0 where
    pub first : waiting old ≡ written ∷ waiting new
    pub rest : (first : P) (fed : List ℕ) (drained : List Written) → HasRecoded first old fed drained → HasRecoded first new fed (drained ++ written ∷ [])

  -- nothing was fed and nothing drained
  pub record IsKept (old new : Recoder P) : Type 0 where
    pub waits : waiting new ≡ waiting old
    pub recodes : (first : P) (fed : List ℕ) (drained : List Written) → HasRecoded first old fed drained → HasRecoded first new fed drained

  -- ## Units taken from the splitter

  -- this is written for one unit more, behind those items, of which the last one comes first
  pub record Reads (old new : Recoder P) (unit : List ℕ) (written : Written) (before : List Item) : Type 0 where
    pub item : Item
    pub read : IsItem old.plan.to old.init (sets_behind before) unit item
    pub goes_on : stop_of (options_of tried old) before item ≡ None
    pub written_is : IsWritten (options_of tried old) before unit item written
    pub stands : StandsBehind (item ∷ before) new
    pub pick : GoesOn tried step (options_of tried old) before item written.form old.pick new.pick

  -- one unit more: what is written for it waits behind the rest
  pub record Adds (old new : Recoder P) (unit : List ℕ) : Type 0 where
    pub written : Written
    pub reads : (before : List Item) → StandsBehind before old → Reads old new unit written before
    pub waits : waiting new ≡ waiting old ++ written ∷ []
    pub count : new.units ≡ unit_number (old.units + 1)
    pub stopped : new.stopped ≡ old.stopped
    pub options : options_of tried new ≡ options_of tried old

  -- the pick behind a unit that stops recoding: as before, but where memory was wanting it may have gone on with the unit
  abbrev pub PickStops : Options → List Item → List ℕ → Stopped → P → P → Type 0
  PickStops o before unit (Outside n why) old new = new ≡ old
  PickStops o before unit (Stop case place) old new = new ≡ old
  PickStops o before unit Memory old new = (new ≡ old) ⊎ GoesBy tried step o before unit old new

  -- all units that have ended were taken, and have an item
  abbrev pub TakesAll : Recoder P → Recoder P → Type 0
  TakesAll old new = (first : P) (fed : List ℕ) (taken : List (List ℕ)) (items : List Item) (drained : List Written) → Holds first old fed taken items drained →
      (all : List Item) × Holds first new fed (seen fed).units all drained

  -- a unit that has ended is refused or can't be written, or there is no memory
  abbrev pub TakingStops : Recoder P → Recoder P → Stopped → Type 0
  TakingStops old new (Outside n why) = (first : P) (fed : List ℕ) (taken : List (List ℕ)) (items : List Item) (drained : List Written) → Holds first old fed taken items drained →
      (fault : Option Why) → EndsAt first old new (record (seen fed) { fault = fault }) drained (Outside n why)
  TakingStops old new Memory = (first : P) (fed : List ℕ) (taken : List (List ℕ)) (items : List Item) (drained : List Written) → Holds first old fed taken items drained →
      RunsOut first old new (seen fed) drained
  TakingStops old new (Stop case place) = (first : P) (fed : List ℕ) (taken : List (List ℕ)) (items : List Item) (drained : List Written) → Holds first old fed taken items drained →
      (fault : Option Why) → EndsAt first old new (record (seen fed) { fault = fault }) drained (Stop case place)
