-- Bin strings, one after another.
use Rattle.std.proofs.Common.{◌≡◌, Bool, Option, Some, None, Result, Ok, Err, OnOk, refl, sym, subst}
use Rattle.cabac_engine.specs.Bins.{Slot}
use Rattle.binarisation.specs.BinString.{BinString, Value, NoValue, Next, Reads, Writes, ◌>>=◌, only}

pub reads_then : {S A B : Type 0} (step : S → Slot → Option Bool → S → Type 0) (string : BinString A) (next : A → BinString B) (x : A) (result : Option B) (s m t : S) → Reads step string (Some x) s m → Reads step (next x) result m t → Reads step (string >>= next) result s t
unfolding ◌>>=◌
reads_then step (Value y) next x result s m t first others = let e : x ≡ y = cc in rw (← e) (subst (λ v. Reads step (next x) result v t) (sym first.1) others)
reads_then step NoValue next x result s m t first others = absurd cc
reads_then step (Next slot rest) next x result s m t (None, u, took, others) h = absurd cc
reads_then step (Next slot rest) next x result s m t (Some bit, u, took, others) h = (Some bit, u, took, reads_then step (rest bit) next x result u m t others h)

pub reads_none : {S A B : Type 0} (step : S → Slot → Option Bool → S → Type 0) (string : BinString A) (next : A → BinString B) (s t : S) → Reads step string None s t → Reads step (string >>= next) None s t
unfolding ◌>>=◌
reads_none step (Value y) next s t first = absurd cc
reads_none step NoValue next s t first = (refl, first.1)
reads_none step (Next slot rest) next s t (None, u, took, others) = (None, u, took, (refl, others.1))
reads_none step (Next slot rest) next s t (Some bit, u, took, others) = (Some bit, u, took, reads_none step (rest bit) next u t others)

pub writes_then : {S A B : Type 0} (step : S → Slot → Bool → S → Type 0) (string : BinString A) (next : A → BinString B) (x : A) (value : B) (s m t : S) → Writes step string x s m → Writes step (next x) value m t → Writes step (string >>= next) value s t
unfolding ◌>>=◌
writes_then step (Value y) next x value s m t first others = rw (first.0) (subst (λ v. Writes step (next x) value v t) (sym first.1) others)
writes_then step NoValue next x value s m t first others = absurd first
writes_then step (Next slot rest) next x value s m t (bit, u, took, others) h = (bit, u, took, writes_then step (rest bit) next x value u m t others h)

-- what is read by the one string from the one state on completes what is read by the other string from the other state on
abbrev pub Continues : {S A : Type 0} → (S → Slot → Option Bool → S → Type 0) → BinString A → S → BinString A → S → Type 0
Continues {S} {A} step whole s rest m = (result : Option A) (t : S) → Reads step rest result m t → Reads step whole result s t

-- the same of what is written
abbrev pub Completes : {S A : Type 0} → (S → Slot → Bool → S → Type 0) → BinString A → S → BinString A → S → Type 0
Completes {S} {A} step whole s rest m = (value : A) (t : S) → Writes step rest value m t → Writes step whole value s t

pub on_ok : {A E P Q : Type 0} (result : Result A E) → (P → Q) → OnOk result P → OnOk result Q
on_ok (Ok x) f p = f p
on_ok (Err e) f p = tt

pub reads_only : {S A : Type 0} (step : S → Slot → Option Bool → S → Type 0) (value : Option A) (s : S) → Reads step (only value) value s s
reads_only step None s = (refl, refl)
reads_only step (Some x) s = (refl, refl)

pub writes_only : {S A : Type 0} (step : S → Slot → Bool → S → Type 0) (found : Option A) (value : A) (s : S) → found ≡ Some value → Writes step (only found) value s s
writes_only {S} {A} step found value s e = subst (λ (o : Option A). Writes step (only o) value s s) (sym e) (refl, refl)
