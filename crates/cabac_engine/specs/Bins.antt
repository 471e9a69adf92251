-- Bins of a source and of a sink, by the steps of their states.
use Rattle.std.specs.Prelude.{◌≡◌, ℕ, Bool, true, false, List, [], ◌∷◌, ◌++◌, Option, Some, None}

-- how a bin is coded: in the context of this number, in bypass, or as an end bin
pub data Slot : Type 0 where
  in_context : ℕ → Slot
  in_bypass : Slot
  at_end : Slot

-- no bin follows: an end bin of 1, or no bin at all
abbrev pub is_last : Slot → Option Bool → Bool
is_last slot None = true
is_last at_end (Some bit) = bit
is_last in_bypass (Some bit) = false
is_last (in_context n) (Some bit) = false

-- the steps from one state to another give these bins
abbrev pub Gives : {S : Type 0} → (S → Slot → Option Bool → S → Type 0) → S → List (Slot × Bool) → S → Type 0
Gives step old [] new = old ≡ new
Gives {S} step old (bin ∷ bins) new = (mid : S) × step old bin.0 (Some bin.1) mid × Gives step mid bins new

-- the source has these bins ahead: asked for the slot of each in turn, it gives its bit
abbrev pub Promises : {S : Type 0} → (S → Slot → Option Bool → S → Type 0) → S → List (Slot × Bool) → Type 0
Promises step s [] = Unit {0}
Promises {S} step s (bin ∷ bins) = (answer : Option Bool) (t : S) → step s bin.0 answer t → (answer ≡ Some bin.1) × Promises step t bins

-- the sink took these bins, one after another
abbrev pub Puts : {S : Type 0} → (S → Slot → Bool → S → Type 0) → S → List (Slot × Bool) → S → Type 0
Puts step old [] new = old ≡ new
Puts {S} step old (bin ∷ bins) new = (mid : S) × step old bin.0 bin.1 mid × Puts step mid bins new

-- A reader of the values P, each with its bins: what it gives is a value whose bins were taken, and where a value's bins are
-- ahead, and then others, it gives that value, and the others are ahead.
pub record ReadsBins {S A : Type 0} (step : S → Slot → Option Bool → S → Type 0) (P : A → Type 0) (bins : A → List (Slot × Bool)) (result : Option A) (s t : S) : Type 0 where
  pub took : (x : A) → result ≡ Some x → P x × Gives step s (bins x) t
  pub ahead : (x : A) (others : List (Slot × Bool)) → P x → Promises step s (bins x ++ others) → (result ≡ Some x) × Promises step t others
