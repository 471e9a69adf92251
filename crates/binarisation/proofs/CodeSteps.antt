-- Unary codes, low bits and suffixes, bin by bin.
use Rattle.std.proofs.Common.{◌≡◌, ℕ, suc, ◌+◌, ◌-◌, ◌*◌, ◌^◌, ◌<◌, ◌≤◌, min, cond, eqb, ◌/◌, ◌%◌, Bool, true, false, List, slice_index_or, Option, Some, None, refl, sym, subst, arith}
use Rattle.std.proofs.lemmas.Bool.Decides.{nat_tests}
use Rattle.std.proofs.lemmas.Nat.{shr-shr}
use Rattle.std.proofs.Math.Nat.{div-eq_of_lt, mod-eq_of_lt}
use Rattle.bit_texts.proofs.Numbers.{pow_most, pow_next, from_bool-most}
use Rattle.std.specs.Int.{from_bool}
use Rattle.cabac_engine.specs.Bins.{Slot, in_context, in_bypass}
use Rattle.binarisation.specs.BinString.{Value, NoValue, Next, Reads, Writes, ◌>>=◌}
use Rattle.binarisation.specs.Codes.{context_at, ones, unary, low_bits, suffix_above, suffix}
use Rattle.binarisation.proofs.Strings.{reads_then, reads_none, writes_then}

pub ones_next : (contexts : List ℕ) (count most : ℕ) → count < most
    → ones contexts count (most - count) ≡ Next (context_at contexts count) (λ one. cond one (ones contexts (count + 1) (most - (count + 1))) (Value count))
unfolding ones
ones_next contexts count most h =
    let e : most - count ≡ suc (most - (count + 1)) = omega arith in
    rw e refl

pub ones_end : (contexts : List ℕ) (most : ℕ) → ones contexts most (most - most) ≡ Value most
unfolding ones
ones_end contexts most = let e : most - most ≡ 0 = omega arith in rw e refl

pub ones_all : (contexts : List ℕ) (most : ℕ) → ones contexts 0 (most - 0) ≡ unary contexts most
unfolding unary
ones_all contexts most = let e : most - 0 ≡ most = omega arith in rw e refl

-- a one of a unary code, and what follows it
pub reads_one : {S : Type 0} (step : S → Slot → Option Bool → S → Type 0) (contexts : List ℕ) (count most place : ℕ) (result : Option ℕ) (s m t : S) → count < most → place ≡ min count 4
    → step s (in_context (slice_index_or contexts place 0)) (Some true) m → Reads step (ones contexts (count + 1) (most - (count + 1))) result m t → Reads step (ones contexts count (most - count)) result s t
reads_one step contexts count most place result s m t h e took others = rw (ones_next contexts count most h) (Some true, m, rw e at took, others)

-- the zero that ends it
pub reads_zero : {S : Type 0} (step : S → Slot → Option Bool → S → Type 0) (contexts : List ℕ) (count most place : ℕ) (s t : S) → count < most → place ≡ min count 4
    → step s (in_context (slice_index_or contexts place 0)) (Some false) t → Reads step (ones contexts count (most - count)) (Some count) s t
reads_zero step contexts count most place s t h e took = rw (ones_next contexts count most h) (Some false, t, rw e at took, (refl, refl))

-- the source doesn't have its next bin
pub reads_no_one : {S : Type 0} (step : S → Slot → Option Bool → S → Type 0) (contexts : List ℕ) (count most place : ℕ) (s t : S) → count < most → place ≡ min count 4
    → step s (in_context (slice_index_or contexts place 0)) None t → Reads step (ones contexts count (most - count)) None s t
reads_no_one step contexts count most place s t h e took = rw (ones_next contexts count most h) (None, t, rw e at took, (refl, refl))

pub reads_most : {S : Type 0} (step : S → Slot → Option Bool → S → Type 0) (contexts : List ℕ) (most : ℕ) (s : S) → Reads step (ones contexts most (most - most)) (Some most) s s
reads_most step contexts most s = rw (ones_end contexts most) (refl, refl)

pub writes_one : {S : Type 0} (step : S → Slot → Bool → S → Type 0) (contexts : List ℕ) (count most place value : ℕ) (s m t : S) → count < most → place ≡ min count 4
    → step s (in_context (slice_index_or contexts place 0)) true m → Writes step (ones contexts (count + 1) (most - (count + 1))) value m t → Writes step (ones contexts count (most - count)) value s t
writes_one step contexts count most place value s m t h e took others = rw (ones_next contexts count most h) (true, m, rw e at took, others)

pub writes_zero : {S : Type 0} (step : S → Slot → Bool → S → Type 0) (contexts : List ℕ) (count most place : ℕ) (s t : S) → count < most → place ≡ min count 4
    → step s (in_context (slice_index_or contexts place 0)) false t → Writes step (ones contexts count (most - count)) count s t
writes_zero step contexts count most place s t h e took = rw (ones_next contexts count most h) (false, t, rw e at took, (refl, refl))

pub writes_most : {S : Type 0} (step : S → Slot → Bool → S → Type 0) (contexts : List ℕ) (most : ℕ) (s : S) → Writes step (ones contexts most (most - most)) most s s
writes_most step contexts most s = rw (ones_end contexts most) (refl, refl)

-- ---- low bits

pub low_bits-next : (high i n : ℕ) → i < n → low_bits high (n - i) ≡ Next in_bypass (λ one. low_bits (2 * high + from_bool one) (n - (i + 1)))
unfolding low_bits
low_bits-next high i n h = let e : n - i ≡ suc (n - (i + 1)) = omega arith in rw e refl

pub low_bits-end : (high n : ℕ) → low_bits high (n - n) ≡ Value high
unfolding low_bits
low_bits-end high n = let e : n - n ≡ 0 = omega arith in rw e refl

pub reads_low_bit : {S : Type 0} (step : S → Slot → Option Bool → S → Type 0) (high i n digit : ℕ) (one : Bool) (result : Option ℕ) (s m t : S) → i < n → digit ≡ from_bool one
    → step s in_bypass (Some one) m → Reads step (low_bits (2 * high + digit) (n - (i + 1))) result m t → Reads step (low_bits high (n - i)) result s t
reads_low_bit step high i n digit one result s m t h e took others = rw (low_bits-next high i n h) (Some one, m, took, rw e at others)

pub reads_no_low_bit : {S : Type 0} (step : S → Slot → Option Bool → S → Type 0) (high i n : ℕ) (s t : S) → i < n → step s in_bypass None t → Reads step (low_bits high (n - i)) None s t
reads_no_low_bit step high i n s t h took = rw (low_bits-next high i n h) (None, t, took, (refl, refl))

pub reads_low_end : {S : Type 0} (step : S → Slot → Option Bool → S → Type 0) (high n : ℕ) (s : S) → Reads step (low_bits high (n - n)) (Some high) s s
reads_low_end step high n s = rw (low_bits-end high n) (refl, refl)

pub below : (value i digit : ℕ) (one : Bool) → value < 2 ^ i → digit ≡ from_bool one → 2 * value + digit < 2 ^ (i + 1)
below value i digit one h e = let next = pow_next i in let most = from_bool-most one in omega (arith, h)

-- the bits above a place, and the one at it
pub above_bit : (value i n : ℕ) → i < n → 2 * (value / 2 ^ (n - i)) + from_bool (eqb (value / 2 ^ (n - 1 - i) % 2) 1) ≡ value / 2 ^ (n - (i + 1))
above_bit value i n h =
    let place : n - i ≡ n - (i + 1) + 1 = omega arith in
    let lower : n - 1 - i ≡ n - (i + 1) = omega arith in
    let halves : value / 2 ^ (n - (i + 1)) / 2 ^ 1 ≡ value / 2 ^ (n - (i + 1) + 1) = shr-shr value (n - (i + 1)) 1 in
    rw (place, lower, ← halves) (halved (value / 2 ^ (n - (i + 1))))
  where
    halved : (v : ℕ) → 2 * (v / 2 ^ 1) + from_bool (eqb (v % 2) 1) ≡ v
    halved v = grind (arith, nat_tests)

pub writes_low_bit : {S : Type 0} (step : S → Slot → Bool → S → Type 0) (all i n value : ℕ) (s m t : S) → i < n
    → step s in_bypass (eqb (all / 2 ^ (n - 1 - i) % 2) 1) m → Writes step (low_bits (all / 2 ^ (n - (i + 1))) (n - (i + 1))) value m t → Writes step (low_bits (all / 2 ^ (n - i)) (n - i)) value s t
writes_low_bit step all i n value s m t h took others =
    rw (low_bits-next (all / 2 ^ (n - i)) i n h) (eqb (all / 2 ^ (n - 1 - i) % 2) 1, m, took, subst (λ (v : ℕ). Writes step (low_bits v (n - (i + 1))) value m t) (sym (above_bit all i n h)) others)

pub fits : (k : ℕ) → k ≤ 16 → 1 * 2 ^ k % 4294967296 ≡ 2 ^ k
fits k h =
    let most : 2 ^ k ≤ 2 ^ 16 = pow_most k 16 h in
    let one : 1 * 2 ^ k ≡ 2 ^ k = omega arith in
    rw one (mod-eq_of_lt (omega arith))

pub writes_low_start : {S : Type 0} (step : S → Slot → Bool → S → Type 0) (value n : ℕ) (s t : S) → value < 2 ^ n → Writes step (low_bits (value / 2 ^ (n - 0)) (n - 0)) value s t → Writes step (low_bits 0 n) value s t
writes_low_start step value n s t h others =
    let whole : n - 0 ≡ n = omega arith in
    let none : value / 2 ^ n ≡ 0 = div-eq_of_lt h in
    rw (whole, none) at others

pub writes_low_end : {S : Type 0} (step : S → Slot → Bool → S → Type 0) (value n : ℕ) (s : S) → Writes step (low_bits (value / 2 ^ (n - n)) (n - n)) value s s
writes_low_end step value n s = rw (low_bits-end (value / 2 ^ (n - n)) n) (let e : n - n ≡ 0 = omega arith in rw e (omega arith), refl)

-- ---- suffixes

pub suffix-next : (base order k most : ℕ) → k < order + most
    → suffix_above base k (order + most - k) ≡ Next in_bypass (λ one. cond one (suffix_above (base + 2 ^ k) (k + 1) (order + most - (k + 1))) (low_bits 0 k >>= (λ low. Value (base + low))))
unfolding suffix_above
suffix-next base order k most h = let e : order + most - k ≡ suc (order + most - (k + 1)) = omega arith in rw e refl

pub suffix-start : (order most : ℕ) → suffix_above 0 order (order + most - order) ≡ suffix order most
unfolding suffix
suffix-start order most = let e : order + most - order ≡ most = omega arith in rw e refl

pub suffix-end : (base k : ℕ) → suffix_above base k (k - k) ≡ NoValue
unfolding suffix_above
suffix-end base k = let e : k - k ≡ 0 = omega arith in rw e refl

pub reads_suffix_one : {S : Type 0} (step : S → Slot → Option Bool → S → Type 0) (base order k most power : ℕ) (result : Option ℕ) (s m t : S) → k < order + most → power ≡ 2 ^ k → step s in_bypass (Some true) m
    → Reads step (suffix_above (base + power) (k + 1) (order + most - (k + 1))) result m t → Reads step (suffix_above base k (order + most - k)) result s t
reads_suffix_one step base order k most power result s m t h e took others = rw (suffix-next base order k most h) (Some true, m, took, rw e at others)

pub reads_suffix_low : {S : Type 0} (step : S → Slot → Option Bool → S → Type 0) (base order k most low : ℕ) (s m t : S) → k < order + most → step s in_bypass (Some false) m
    → Reads step (low_bits 0 k) (Some low) m t → Reads step (suffix_above base k (order + most - k)) (Some (base + low)) s t
reads_suffix_low step base order k most low s m t h took others = rw (suffix-next base order k most h) (Some false, m, took, reads_then step (low_bits 0 k) (λ (low : ℕ). Value (base + low)) low (Some (base + low)) m t t others (refl, refl))

pub reads_suffix_no_low : {S : Type 0} (step : S → Slot → Option Bool → S → Type 0) (base order k most : ℕ) (s m t : S) → k < order + most → step s in_bypass (Some false) m
    → Reads step (low_bits 0 k) None m t → Reads step (suffix_above base k (order + most - k)) None s t
reads_suffix_no_low step base order k most s m t h took others = rw (suffix-next base order k most h) (Some false, m, took, reads_none step (low_bits 0 k) (λ (low : ℕ). Value (base + low)) m t others)

pub reads_no_suffix : {S : Type 0} (step : S → Slot → Option Bool → S → Type 0) (base order k most : ℕ) (s t : S) → k < order + most → step s in_bypass None t → Reads step (suffix_above base k (order + most - k)) None s t
reads_no_suffix step base order k most s t h took = rw (suffix-next base order k most h) (None, t, took, (refl, refl))

pub reads_suffix_end : {S : Type 0} (step : S → Slot → Option Bool → S → Type 0) (base k : ℕ) (s : S) → Reads step (suffix_above base k (k - k)) None s s
reads_suffix_end step base k s = rw (suffix-end base k) (refl, refl)

pub writes_suffix_one : {S : Type 0} (step : S → Slot → Bool → S → Type 0) (base order k most power value : ℕ) (s m t : S) → k < order + most → power ≡ 2 ^ k → step s in_bypass true m
    → Writes step (suffix_above (base + power) (k + 1) (order + most - (k + 1))) value m t → Writes step (suffix_above base k (order + most - k)) value s t
writes_suffix_one step base order k most power value s m t h e took others = rw (suffix-next base order k most h) (true, m, took, rw e at others)

pub writes_suffix_low : {S : Type 0} (step : S → Slot → Bool → S → Type 0) (base order k most value : ℕ) (s m t : S) → k < order + most → base ≤ value → step s in_bypass false m
    → Writes step (low_bits 0 k) (value - base) m t → Writes step (suffix_above base k (order + most - k)) value s t
writes_suffix_low step base order k most value s m t h low took others =
    rw (suffix-next base order k most h) (false, m, took, writes_then step (low_bits 0 k) (λ (low : ℕ). Value (base + low)) (value - base) value m t t others (omega arith, refl))
