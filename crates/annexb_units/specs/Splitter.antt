-- What the calls of a splitter do, by the bytes that it stands for.
use Rattle.std.specs.Prelude.{◌≡◌, ℕ, ◌-◌, ◌^◌, ◌<◌, ◌≤◌, min, vec_len, List, [], ◌∷◌, ◌++◌, length, map, take, Some, None}
use Rattle.std.specs.VecDeque.{deque_len}
use Rattle.h264_types.specs.declared.fault.Why.{Why}
use Rattle.h264_types.specs.Units.{seen, seen_whole}
use Rattle.annexb_units.specs.declared.splitter.Splitter.{Splitter}
use Rattle.annexb_units.specs.declared.splitter.SplitFault.{SplitFault}
use Rattle.annexb_units.specs.declared.splitter.SplitFault.TheVariants.{Bad, Memory}
use Rattle.annexb_units.specs.declared.splitter.State.TheVariants.{Inside, Bad as BadState}
use Rattle.annexb_units.specs.Parts.{Parts, PartsStandFor}

abbrev pub parts : Splitter → Parts
parts s = record { waiting = map (λ u. u.items) s.ended.items; unit = s.unit.items; zeros = s.zeros; state = s.state; count = s.count }

-- how many units can be taken
abbrev pub waiting_count : Splitter → ℕ
waiting_count s = deque_len s.ended

-- the splitter was fed these bytes, and these of their units were taken from it
pub record StandsFor (s : Splitter) (fed : List ℕ) (taken : List (List ℕ)) : Type 0 where
  pub parts : PartsStandFor (parts s) fed taken

-- nothing was fed and nothing taken
abbrev pub Keeps : Splitter → Splitter → Type 0
Keeps old new = (fed : List ℕ) (taken : List (List ℕ)) → StandsFor old fed taken → StandsFor new fed taken

-- the splitter was fed these bytes more
abbrev pub Feeds : Splitter → Splitter → List ℕ → Type 0
Feeds old new piece = (fed : List ℕ) (taken : List (List ℕ)) → StandsFor old fed taken → StandsFor new (fed ++ piece) taken

-- the bytes that it has been fed with these show no fault
abbrev pub ShowsNone : Splitter → List ℕ → Type 0
ShowsNone old piece = (fed : List ℕ) (taken : List (List ℕ)) → StandsFor old fed taken → (seen (fed ++ piece)).fault ≡ None

-- they show this fault, at the unit with this number
abbrev pub Shows : Splitter → List ℕ → ℕ → Why → Type 0
Shows old piece unit why = (fed : List ℕ) (taken : List (List ℕ)) → StandsFor old fed taken →
    ((seen (fed ++ piece)).fault ≡ Some why) × (unit ≡ min (length (seen (fed ++ piece)).units) (2 ^ 64 - 1))

-- the splitter has come to this fault, and stays there
abbrev pub IsBad : Splitter → SplitFault → Type 0
IsBad s (Bad unit why) = (s.state ≡ BadState why) × (s.count ≡ unit)
IsBad s Memory = ⊥

-- after a fault the bytes show it; after a want of memory some first bytes of the piece were fed
abbrev pub FeedStops : Splitter → Splitter → List ℕ → SplitFault → Type 0
FeedStops old new piece (Bad unit why) = Feeds old new piece × Shows old piece unit why × IsBad new (Bad unit why)
FeedStops old new piece Memory = (k : ℕ) × (k ≤ length piece) × Feeds old new (take k piece)

-- some first bytes of these were fed, this many
abbrev pub TakesFront : Splitter → Splitter → List ℕ → ℕ → Type 0
TakesFront old new bytes n = (0 < n) × (n ≤ length bytes) × Feeds old new (take n bytes) × ShowsNone old (take n bytes)

-- some of a unit was read, and no zero byte behind it
abbrev pub IsWithinUnit : Splitter → Type 0
IsWithinUnit s = (s.state ≡ Inside) × (s.zeros ≡ 0) × (0 < vec_len s.unit)

-- The splitter was told that the input has ended. What is seen of a whole input is what is seen with three zero bytes
-- behind it.
abbrev pub Ends : Splitter → Splitter → Type 0
Ends old new = Feeds old new (0 ∷ 0 ∷ 0 ∷ [])

-- the bytes that it has been fed show no fault as a whole input
abbrev pub EndShowsNone : Splitter → Type 0
EndShowsNone old = (fed : List ℕ) (taken : List (List ℕ)) → StandsFor old fed taken → (seen_whole fed).fault ≡ None

-- as a whole input they show this fault, at the unit with this number
abbrev pub EndShows : Splitter → ℕ → Why → Type 0
EndShows old unit why = (fed : List ℕ) (taken : List (List ℕ)) → StandsFor old fed taken →
    ((seen_whole fed).fault ≡ Some why) × (unit ≡ min (length (seen_whole fed).units) (2 ^ 64 - 1))

abbrev pub EndStops : Splitter → Splitter → SplitFault → Type 0
EndStops old new (Bad unit why) = Ends old new × EndShows old unit why × IsBad new (Bad unit why)
EndStops old new Memory = ⊥

-- this is the next unit of the bytes fed, and it was taken
abbrev pub Takes : Splitter → Splitter → List ℕ → Type 0
Takes old new unit = (fed : List ℕ) (taken : List (List ℕ)) → StandsFor old fed taken →
    StandsFor new fed (taken ++ unit ∷ []) × ((rest : List (List ℕ)) × ((seen fed).units ≡ (taken ++ unit ∷ []) ++ rest))

-- the units of the bytes fed are those that were taken
abbrev pub IsAllTaken : Splitter → Type 0
IsAllTaken s = (fed : List ℕ) (taken : List (List ℕ)) → StandsFor s fed taken → (seen fed).units ≡ taken
