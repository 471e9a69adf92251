-- Bin strings (9.3.2), as decisions: how the next bin is coded, and what it says, depends on the bins before it.
use Rattle.std.specs.Prelude.{◌≡◌, Bool, List, [], ◌∷◌, ◌++◌, Option, Some, None}
use Rattle.cabac_engine.specs.Bins.{Slot, Gives, Puts}

-- What bins stand for: those so far are the bins of this value; they are the bins of no value in range; a bin follows, and
-- then what its bit asks for.
pub data BinString (A : Type 0) : Type 0 where
  Value : A → BinString A
  NoValue : BinString A
  Next : Slot → (Bool → BinString A) → BinString A

-- the bins are those of the value
abbrev pub Spells : {A : Type 0} → BinString A → List (Slot × Bool) → A → Type 0
Spells (Value x) bins value = (bins ≡ []) × (x ≡ value)
Spells NoValue bins value = ⊥
Spells (Next slot rest) [] value = ⊥
Spells (Next slot rest) (bin ∷ bins) value = (bin.0 ≡ slot) × Spells (rest bin.1) bins value

-- From the one state to the other a source gave the bins that the string asks for: those of the value that was read; or
-- nothing was read, since they are the bins of no value in range or the source didn't have the next one.
abbrev pub Reads : {S A : Type 0} → (S → Slot → Option Bool → S → Type 0) → BinString A → Option A → S → S → Type 0
Reads step (Value x) result s t = (result ≡ Some x) × (s ≡ t)
Reads step NoValue result s t = (result ≡ None) × (s ≡ t)
Reads {S} step (Next slot rest) result s t =
    (answer : Option Bool) × (m : S) × step s slot answer m × (elim answer [ None ↦ (result ≡ None) × (m ≡ t) | Some bit ↦ Reads step (rest bit) result m t ])

-- from the one state to the other a sink took the bins of the value
abbrev pub Writes : {S A : Type 0} → (S → Slot → Bool → S → Type 0) → BinString A → A → S → S → Type 0
Writes step (Value x) value s t = (x ≡ value) × (s ≡ t)
Writes step NoValue value s t = ⊥
Writes {S} step (Next slot rest) value s t = (bit : Bool) × (m : S) × step s slot bit m × Writes step (rest bit) value m t

-- one string, and then the one that its value asks for
infixl 10 ◌>>=◌
unfoldable pub ◌>>=◌ : {A B : Type 0} → BinString A → (A → BinString B) → BinString B
(Value x) >>= next = next x
NoValue >>= next = NoValue
(Next slot rest) >>= next = Next slot (λ bit. rest bit >>= next)

-- a value that bins before gave, if there is one
abbrev pub only : {A : Type 0} → Option A → BinString A
only None = NoValue
only (Some value) = Value value

-- no bins begin with the bins of two values
abbrev pub IsPrefixFree : {A : Type 0} → BinString A → Type 0
IsPrefixFree {A} string = (bins more : List (Slot × Bool)) (value other : A) → Spells string bins value → Spells string (bins ++ more) other → (more ≡ []) × (value ≡ other)

-- no value has two strings of bins
abbrev pub HasOneString : {A : Type 0} → BinString A → Type 0
HasOneString {A} string = (bins others : List (Slot × Bool)) (value : A) → Spells string bins value → Spells string others value → bins ≡ others

-- from the one state to the other the source gave the bins of the value; it gave bins of no value in range, or didn't have
-- the next one; the sink took the bins of the value
abbrev pub WasGiven : {S A : Type 0} → (S → Slot → Option Bool → S → Type 0) → BinString A → A → S → S → Type 0
WasGiven step string value s t = (bins : List (Slot × Bool)) × Spells string bins value × Gives step s bins t

abbrev pub WasRefused : {S A : Type 0} → (S → Slot → Option Bool → S → Type 0) → BinString A → S → S → Type 0
WasRefused step (Value x) s t = ⊥
WasRefused step NoValue s t = s ≡ t
WasRefused {S} step (Next slot rest) s t =
    (answer : Option Bool) × (m : S) × step s slot answer m × (elim answer [ None ↦ m ≡ t | Some bit ↦ WasRefused step (rest bit) m t ])

abbrev pub WasPut : {S A : Type 0} → (S → Slot → Bool → S → Type 0) → BinString A → A → S → S → Type 0
WasPut step string value s t = (bins : List (Slot × Bool)) × Spells string bins value × Puts step s bins t
