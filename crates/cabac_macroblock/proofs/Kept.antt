-- What all values of a string have.
use Rattle.std.proofs.Common.{◌≡◌, ℕ, ◌+◌, ◌<◌, ◌≤◌, Bool, true, false, cond, List, refl, subst, arith}
use Rattle.cabac_engine.specs.Bins.{Slot}
use Rattle.binarisation.specs.BinString.{BinString, Value, Spells, ◌>>=◌}
use Rattle.binarisation.proofs.OneString.{splits}
use Rattle.binarisation.specs.Each.{each}
use Rattle.binarisation.proofs.Each.{each_keeps}

abbrev pub Keeps : {A : Type 0} → (A → Type 0) → BinString A → Type 0
Keeps {A} P string = (bins : List (Slot × Bool)) (value : A) → Spells string bins value → P value

pub keeps_value : {A : Type 0} (P : A → Type 0) (x : A) → P x → Keeps P (Value x)
keeps_value P x is bins value h = subst P h.1 is

pub keeps_then : {A B : Type 0} (P : A → Type 0) (Q : B → Type 0) (string : BinString A) (next : A → BinString B) → Keeps P string → ((x : A) → P x → Keeps Q (next x)) → Keeps Q (string >>= next)
keeps_then P Q string next first others bins value h =
    let parts = splits string next bins value h in
    others parts.0 (first parts.1 parts.0 parts.4) parts.2 value parts.5

pub keeps_put : {A B : Type 0} (Q : B → Type 0) (string : BinString A) (put : A → B) → ((x : A) → Q (put x)) → Keeps Q (string >>= (λ y. Value (put y)))
keeps_put {A} Q string put is = keeps_then (λ (x : A). Unit {0}) Q string (λ y. Value (put y)) (λ bins value h. tt) (λ x u. keeps_value Q (put x) (is x))

pub keeps_if : {A : Type 0} (P : A → Type 0) (b : Bool) (one other : BinString A) → Keeps P one → Keeps P other → Keeps P (cond b one other)
keeps_if P true one other h g = h
keeps_if P false one other h g = g

-- ---- of repeats: from a place on, at each place, up to a place, and by the place

pub keeps_from : {A : Type 0} (P : A → Type 0) (f : ℕ → A → BinString A) (least : ℕ) → ((k : ℕ) (x : A) → least ≤ k → P x → Keeps P (f k x)) → (n k : ℕ) (x : A) → least ≤ k → P x → Keeps P (each n f k x)
keeps_from {A} P f least one n k x h is bins z g = each_keeps f (λ (i : ℕ) (y : A). P y) least (k + n) (λ j y others v low high p s. one j y low p others v s) n k x bins z h (omega arith) is g

pub keeps_each : {A : Type 0} (P : A → Type 0) (f : ℕ → A → BinString A) → ((k : ℕ) (x : A) → P x → Keeps P (f k x)) → (n k : ℕ) (x : A) → P x → Keeps P (each n f k x)
keeps_each P f one n k x is = keeps_from P f 0 (λ j y h has. one j y has) n k x (omega arith) is

pub keeps_upto : {A : Type 0} (P : A → Type 0) (f : ℕ → A → BinString A) (most : ℕ) → ((k : ℕ) (x : A) → k < most → P x → Keeps P (f k x)) → (n k : ℕ) (x : A) → k + n ≤ most → P x → Keeps P (each n f k x)
keeps_upto {A} P f most one n k x h is bins z g = each_keeps f (λ (i : ℕ) (y : A). P y) 0 most (λ j y others v low high p s. one j y high p others v s) n k x bins z (omega arith) h is g

pub keeps_at : {A : Type 0} (I : ℕ → A → Type 0) (f : ℕ → A → BinString A) → ((k : ℕ) (x : A) → I k x → Keeps (I (k + 1)) (f k x)) → (n k m : ℕ) (x : A) → k + n ≡ m → I k x → Keeps (I m) (each n f k x)
keeps_at I f one n k m x e is bins z g = subst (λ i. I i z) e (each_keeps f I 0 (k + n) (λ j y others v low high p s. one j y p others v s) n k x bins z (omega arith) (omega arith) is g)

pub keeps_put_of : {A B : Type 0} (P : A → Type 0) (Q : B → Type 0) (string : BinString A) (put : A → B) → Keeps P string → ((x : A) → P x → Q (put x)) → Keeps Q (string >>= (λ y. Value (put y)))
keeps_put_of P Q string put range is = keeps_then P Q string (λ y. Value (put y)) range (λ x has. keeps_value Q (put x) (is x has))

pub keeps_when : {A : Type 0} (P : A → Type 0) (b : Bool) (one other : BinString A) → (b ≡ true → Keeps P one) → (b ≡ false → Keeps P other) → Keeps P (cond b one other)
keeps_when P true one other h g = h refl
keeps_when P false one other h g = g refl
