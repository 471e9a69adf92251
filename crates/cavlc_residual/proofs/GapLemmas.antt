-- The places of the levels other than 0, and the gaps between them.
use Rattle.std.proofs.Common.{◌≡◌, ℕ, zero, suc, ◌+◌, ◌-◌, ◌<◌, ◌≤◌, ℤ, Bool, true, false, cond, List, [], ◌∷◌, length, get_or, sum, refl, ap, ◌∙◌, arith}
use Rattle.std.proofs.lemmas.List.Sums.{sum_by-cons}
use Rattle.cavlc_residual.specs.Block.{is_nonzero, leading_zeros, runs_of}
use Rattle.cavlc_residual.specs.Places.{places_of, AreFalling, size_up_to, gaps}

-- ---- the places of a block's levels

size-places : (ds : List ℤ) → length ds ≡ leading_zeros ds + size_up_to (places_of ds)
size-places [] = refl
size-places (d ∷ ds) = by (is_nonzero d) (size-places ds) where
  by : (b : Bool) → length ds ≡ leading_zeros ds + size_up_to (places_of ds) → suc (length ds) ≡ cond b 0 (leading_zeros ds + 1) + size_up_to (cond b (length ds ∷ places_of ds) (places_of ds))
  by true h = omega arith
  by false h = omega (arith, h)

pub gaps-places : (ds : List ℤ) → gaps (places_of ds) ≡ runs_of ds
gaps-places [] = refl
gaps-places (d ∷ ds) = by (is_nonzero d) (gaps-places ds) where
  by : (b : Bool) → gaps (places_of ds) ≡ runs_of ds → gaps (cond b (length ds ∷ places_of ds) (places_of ds)) ≡ cond b (leading_zeros ds ∷ runs_of ds) (runs_of ds)
  by true h =
      let gap : length ds - size_up_to (places_of ds) ≡ leading_zeros ds = omega (arith, size-places ds) in
      ap (λ n. n ∷ gaps (places_of ds)) gap ∙ ap (λ t. leading_zeros ds ∷ t) h
  by false h = h

pub falling_more : (n m : ℕ) (ps : List ℕ) → n ≤ m → AreFalling n ps → AreFalling m ps
falling_more n m [] h fall = tt
falling_more n m (p ∷ ps) h fall = (omega (arith, fall.0), fall.1)

pub falling-places : (ds : List ℤ) → AreFalling (length ds) (places_of ds)
falling-places [] = tt
falling-places (d ∷ ds) = by (is_nonzero d) (falling-places ds) where
  by : (b : Bool) → AreFalling (length ds) (places_of ds) → AreFalling (suc (length ds)) (cond b (length ds ∷ places_of ds) (places_of ds))
  by true h = (omega arith, h)
  by false h = falling_more (length ds) (suc (length ds)) (places_of ds) (omega arith) h

-- ---- places that fall

pub length-falling : (n : ℕ) (ps : List ℕ) → AreFalling n ps → length ps ≤ n
length-falling n [] fall = omega arith
length-falling n (p ∷ ps) fall = omega (arith, fall.0, length-falling p ps fall.1)

size-falling : (n : ℕ) (ps : List ℕ) → AreFalling n ps → size_up_to ps ≤ n
size-falling n [] fall = omega arith
size-falling n (p ∷ ps) fall = omega (arith, fall.0)

sum-gaps : (n : ℕ) (ps : List ℕ) → AreFalling n ps → sum (gaps ps) + length ps ≡ size_up_to ps
sum-gaps n [] fall = refl
sum-gaps n (p ∷ ps) fall =
    let parts = sum_by-cons (λ x. x) (p - size_up_to ps) (gaps ps) in
    omega (arith, parts, size-falling p ps fall.1, sum-gaps p ps fall.1)

pub zeros_are : (n : ℕ) (ps : List ℕ) → AreFalling n ps → 0 < length ps → get_or ps 0 0 ≡ sum (gaps ps) + (length ps - 1)
zeros_are n [] fall some = absurd (omega arith)
zeros_are n (p ∷ ps) fall some = omega (arith, sum-gaps n (p ∷ ps) fall)

pub length-gaps : (ps : List ℕ) → length (gaps ps) ≡ length ps
length-gaps [] = refl
length-gaps (p ∷ ps) = ap suc (length-gaps ps)

pub falls_at : (n i j : ℕ) (ps : List ℕ) → AreFalling n ps → j ≡ i + 1 → j < length ps → get_or ps j 0 < get_or ps i 0
falls_at n i j [] fall at h = absurd (omega arith)
falls_at n i zero (p ∷ ps) fall at h = absurd (omega arith)
falls_at n zero (suc k) (p ∷ []) fall at h = absurd (omega arith)
falls_at n zero (suc zero) (p ∷ q ∷ ps) fall at h = fall.1.0
falls_at n zero (suc (suc k)) (p ∷ q ∷ ps) fall at h = absurd (omega arith)
falls_at n (suc i) (suc k) (p ∷ ps) fall at h = falls_at p i k ps fall.1 (omega arith) (omega arith)

gap_between : (i j : ℕ) (ps : List ℕ) → j ≡ i + 1 → j < length ps → get_or (gaps ps) i 0 ≡ get_or ps i 0 - (get_or ps j 0 + 1)
gap_between i j [] at h = absurd (omega arith)
gap_between i zero (p ∷ ps) at h = absurd (omega arith)
gap_between zero (suc k) (p ∷ []) at h = absurd (omega arith)
gap_between zero (suc zero) (p ∷ q ∷ ps) at h = refl
gap_between zero (suc (suc k)) (p ∷ q ∷ ps) at h = absurd (omega arith)
gap_between (suc i) (suc k) (p ∷ ps) at h = gap_between i k ps (omega arith) (omega arith)

-- the gap behind the place before place i
pub gap_at : (i : ℕ) (ps : List ℕ) → 0 < i → i < length ps → get_or ps (i - 1) 0 - get_or ps i 0 - 1 ≡ get_or (gaps ps) (i - 1) 0
gap_at i ps some h = omega (arith, gap_between (i - 1) i ps (omega (arith, some)) h)
