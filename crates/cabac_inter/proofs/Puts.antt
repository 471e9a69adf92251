-- Elements that are put into a macroblock, one after another.
use Rattle.std.proofs.Common.{◌≡◌, ℕ, ◌+◌, ◌-◌, ◌<◌, Bool, Option, Some, None, refl, sym, ap, subst, arith}
use Rattle.cabac_engine.specs.Bins.{Slot}
use Rattle.binarisation.specs.BinString.{BinString, Value, Reads, Writes, ◌>>=◌}
use Rattle.binarisation.specs.Each.{each}
use Rattle.binarisation.proofs.Strings.{reads_then, reads_none, writes_then}
use Rattle.binarisation.proofs.Each.{each_next, reads_next, reads_end, writes_next, writes_end}

pub unread : {S A : Type 0} (step : S → Slot → Option Bool → S → Type 0) (string : BinString A) (result : Option A) (s t : S) → result ≡ None → Reads step string None s t → Reads step string result s t
unread {S} {A} step string result s t e read = subst (λ (r : Option A). Reads step string r s t) (sym e) read

pub reads_put : {S A B : Type 0} (step : S → Slot → Option Bool → S → Type 0) (string : BinString A) (put : A → B) (x : A) (made : B) (s t : S) → made ≡ put x → Reads step string (Some x) s t → Reads step (string >>= (λ y. Value (put y))) (Some made) s t
reads_put step string put x made s t e first = reads_then step string (λ y. Value (put y)) x (Some made) s t t first (ap Some e, refl)

pub writes_put : {S A B : Type 0} (step : S → Slot → Bool → S → Type 0) (string : BinString A) (put : A → B) (x : A) (made : B) (s t : S) → made ≡ put x → Writes step string x s t → Writes step (string >>= (λ y. Value (put y))) made s t
writes_put step string put x made s t e first = writes_then step string (λ y. Value (put y)) x made s t t first (sym e, refl)

module _ {S A : Type 0} (f : ℕ → A → BinString A) (most k : ℕ) (x : A) (s : S) where
  pub reads_each : (step : S → Slot → Option Bool → S → Type 0) (y : A) (result : Option A) (m t : S) → k < most
      → Reads step (f k x) (Some y) s m → Reads step (each (most - (k + 1)) f (k + 1) y) result m t → Reads step (each (most - k) f k x) result s t
  reads_each step y result m t h first others = reads_next step f (most - k) (most - (k + 1)) k (k + 1) x y result s m t (omega (arith, h)) refl first others

  pub reads_each_none : (step : S → Slot → Option Bool → S → Type 0) (t : S) → k < most → Reads step (f k x) None s t → Reads step (each (most - k) f k x) None s t
  reads_each_none step t h first = rw (each_next f (most - k) (most - (k + 1)) k (k + 1) x (omega (arith, h)) refl) (reads_none step (f k x) (each (most - (k + 1)) f (k + 1)) s t first)

  pub reads_each_end : (step : S → Slot → Option Bool → S → Type 0) → k ≡ most → Reads step (each (most - k) f k x) (Some x) s s
  reads_each_end step h = reads_end step f (most - k) k x s (omega (arith, h))

  pub writes_each : (step : S → Slot → Bool → S → Type 0) (y value : A) (m t : S) → k < most
      → Writes step (f k x) y s m → Writes step (each (most - (k + 1)) f (k + 1) y) value m t → Writes step (each (most - k) f k x) value s t
  writes_each step y value m t h first others = writes_next step f (most - k) (most - (k + 1)) k (k + 1) x y value s m t (omega (arith, h)) refl first others

  pub writes_each_end : (step : S → Slot → Bool → S → Type 0) (value : A) → k ≡ most → x ≡ value → Writes step (each (most - k) f k x) value s s
  writes_each_end step value h same = subst (λ (y : A). Writes step (each (most - k) f k x) y s s) same (writes_end step f (most - k) k x s (omega (arith, h)))
