-- Values in range have bins.
use Rattle.std.proofs.Common.{◌≡◌, ℕ, zero, suc, ◌+◌, ◌-◌, ◌*◌, ◌^◌, ◌<◌, ◌≤◌, ◌≢◌, ℤ, pos, negsuc, ◌≤ℤ◌, unsigned_abs, eqb, ltb, ◌||◌, ◌&&◌, ◌⊎◌, inl, inr, Bool, true, false, List, Some, refl, sym, ap, subst, ◌∙◌, arith}
use Rattle.std.proofs.lemmas.Bool.{lt-ltb, le-ltb, and_parts, eqb-true}
use Rattle.std.specs.Bool.{beq}
use Rattle.std.proofs.lemmas.Bool.Decides.{leb_tells, eqb_tells, nat_tests}
use Rattle.std.proofs.lemmas.Int.{ints}
use Rattle.bit_texts.proofs.Numbers.{pow_next}
use Rattle.exp_golomb.specs.Code.{place_of}
use Rattle.cabac_engine.specs.Bins.{Slot, is_last, Puts}
use Rattle.binarisation.specs.BinString.{BinString, Value, NoValue, Next, Spells, Writes, ◌>>=◌, only}
use Rattle.binarisation.specs.Codes.{flag, up_to_two, ones, unary, low_bits, suffix_above, suffix, ueg_behind, ueg, signed}
use Rattle.binarisation.specs.Each.{each}
use Rattle.binarisation.specs.Elements.{mode, chroma_mode, ref_idx, delta, qp_delta, mvd}
use Rattle.binarisation.specs.MacroblockType.{two_bits, three_bits, intra_parts, intra, type_i, intra_from, type_p, type_b_last, type_b_more, type_b, sub_p, sub_b_more, sub_b}
use Rattle.binarisation.proofs.Numbers.{delta-place_of, index_of-small}
use Rattle.binarisation.proofs.Spelling.{writes_put}
use Rattle.binarisation.proofs.Strings.{writes_then, writes_only}

-- a sink that takes every bin, and is over behind an end bin of 1
abbrev pub Takes : Bool → Slot → Bool → Bool → Type 0
Takes over slot bit next = (over ≡ false) × (next ≡ is_last slot (Some bit))

-- the value has bins, of which none is an end bin of 1
abbrev pub HasBins : {A : Type 0} → BinString A → A → Type 0
HasBins string value = Writes Takes string value false false

-- the value has bins, and the last one is an end bin of 1
abbrev pub HasLastBins : {A : Type 0} → BinString A → A → Type 0
HasLastBins string value = Writes Takes string value false true

-- its bins
abbrev pub Bins : {A : Type 0} → BinString A → A → Bool → Type 0
Bins string value over = (bins : List (Slot × Bool)) × Spells string bins value × Puts Takes false bins over

pub bins_of : {A : Type 0} (string : BinString A) (value : A) (over : Bool) → Writes Takes string value false over → Bins string value over
bins_of string value over h = let put = writes_put Takes string value false over h in (put.0, put.1, put.2)

pub then_has : {A B : Type 0} (string : BinString A) (next : A → BinString B) (x : A) (value : B) → HasBins string x → HasBins (next x) value → HasBins (string >>= next) value
then_has string next x value h g = writes_then Takes string next x value false false false h g

-- so many steps, each of which has bins
pub each_has : {A : Type 0} (f : ℕ → A → BinString A) (of : ℕ → A) (n k : ℕ) → ((j : ℕ) → k ≤ j → j < k + n → HasBins (f j (of j)) (of (j + 1))) → HasBins (each n f k (of k)) (of (k + n))
unfolding each
each_has {A} f of zero k has = let e : k ≡ k + 0 = omega arith in (ap of e, refl)
each_has {A} f of (suc n) k has =
    let e : k + 1 + n ≡ k + suc n = omega arith in
    let others = each_has f of n (k + 1) (λ j from to. has j (omega (arith, from)) (omega (arith, to))) in
    then_has (f k (of k)) (each n f (k + 1)) (of (k + 1)) (of (k + suc n)) (has k (omega arith) (omega arith)) (subst (λ (i : ℕ). HasBins (each n f (k + 1) (of (k + 1))) (of i)) e others)

-- ---- codes

pub flag_has : (ctx : ℕ) (bit : Bool) → HasBins (flag ctx) bit
flag_has ctx bit = (bit, false, (refl, refl), (refl, refl))

pub up_to_two_has : (first second value : ℕ) → value ≤ 2 → HasBins (up_to_two first second) value
unfolding up_to_two
up_to_two_has first second zero h = (false, false, (refl, refl), (refl, refl))
up_to_two_has first second (suc zero) h = (true, false, (refl, refl), (false, false, (refl, refl), (refl, refl)))
up_to_two_has first second (suc (suc zero)) h = (true, false, (refl, refl), (true, false, (refl, refl), (refl, refl)))
up_to_two_has first second (suc (suc (suc value))) h = absurd (omega (arith, h))

ones_has : (contexts : List ℕ) (more count value : ℕ) → count ≤ value → value ≤ count + more → HasBins (ones contexts count more) value
unfolding ones
ones_has contexts zero count value low high = (omega (arith, low, high), refl)
ones_has contexts (suc more) count value low high =
    elim (leb_tells (count + 1) value) [
      | inl is ↦ (true, false, (refl, refl), ones_has contexts more (count + 1) value is.1 (omega (arith, high)))
      | inr bad ↦ (false, false, (refl, refl), (omega (arith, bad.1, low), refl))
    ]

pub unary_has : (contexts : List ℕ) (most value : ℕ) → value ≤ most → HasBins (unary contexts most) value
unfolding unary
unary_has contexts most value h = ones_has contexts most 0 value (omega arith) (omega (arith, h))

-- the digits above a bit and the bit itself
one_digit : (high p value : ℕ) → p ≤ value → (2 * high + 1) * p + (value - p) ≡ high * (2 * p) + value
one_digit high p value h = omega (arith, h)

no_digit : (high p value : ℕ) → (2 * high + 0) * p + value ≡ high * (2 * p) + value
no_digit high p value = omega arith

low_bits_has : (n high value : ℕ) → value < 2 ^ n → HasBins (low_bits high n) (high * 2 ^ n + value)
unfolding low_bits
low_bits_has zero high value h = (omega (arith, h), refl)
low_bits_has (suc n) high value h =
    let next = pow_next n in
    let one : n + 1 ≡ suc n = omega arith in
    let double : 2 ^ suc n ≡ 2 * 2 ^ n = ap (λ (k : ℕ). 2 ^ k) (sym one) ∙ next in
    elim (leb_tells (2 ^ n) value) [
      | inl is ↦ (
        true,
        false,
        (refl, refl),
        subst (λ (v : ℕ). HasBins (low_bits (2 * high + 1) n) v) (one_digit high (2 ^ n) value is.1 ∙ ap (λ (p : ℕ). high * p + value) (sym double))
            (low_bits_has n (2 * high + 1) (value - 2 ^ n) (omega (arith, h, double, is.1))),
      )
      | inr bad ↦ (
        false,
        false,
        (refl, refl),
        subst (λ (v : ℕ). HasBins (low_bits (2 * high + 0) n) v) (no_digit high (2 ^ n) value ∙ ap (λ (p : ℕ). high * p + value) (sym double))
            (low_bits_has n (2 * high + 0) value bad.1),
      )
    ]

suffix_above_has : (more base k value : ℕ) → base ≤ value → value + 2 ^ k < base + 2 ^ (k + more) → HasBins (suffix_above base k more) value
unfolding suffix_above
suffix_above_has zero base k value low high = let e : k + 0 ≡ k = omega arith in let same : 2 ^ (k + 0) ≡ 2 ^ k = ap (λ (n : ℕ). 2 ^ n) e in absurd (omega (arith, low, high, same))
suffix_above_has (suc more) base k value low high =
    let next : 2 ^ (k + 1) ≡ 2 * 2 ^ k = pow_next k in
    let e : k + 1 + more ≡ k + suc more = omega arith in
    let same : 2 ^ (k + 1 + more) ≡ 2 ^ (k + suc more) = ap (λ (n : ℕ). 2 ^ n) e in
    elim (leb_tells (base + 2 ^ k) value) [
      | inl is ↦ (true, false, (refl, refl), suffix_above_has more (base + 2 ^ k) (k + 1) value is.1 (omega (arith, high, next, same)))
      | inr bad ↦ (
        false,
        false,
        (refl, refl),
        then_has (low_bits 0 k) (λ low. Value (base + low)) (value - base) value
            (let e : 0 * 2 ^ k + (value - base) ≡ value - base = omega arith in subst (λ (v : ℕ). HasBins (low_bits 0 k) v) e (low_bits_has k 0 (value - base) (omega (arith, bad.1, low))))
            (omega (arith, low), refl),
      )
    ]

pub suffix_has : (k most value : ℕ) → value + 2 ^ k < 2 ^ (k + most) → HasBins (suffix k most) value
unfolding suffix
suffix_has k most value h = suffix_above_has most 0 k value (omega arith) (omega (arith, h))

pub ueg_has : (contexts : List ℕ) (prefix k most value : ℕ) → value + 2 ^ k < prefix + 2 ^ (k + most) → HasBins (ueg contexts prefix k most) value
unfolding ueg ueg_behind
ueg_has contexts prefix k most value h = elim (leb_tells prefix value) [ inl is ↦ long is.1 | inr bad ↦ short bad.1 ]
  where
    short : value < prefix → HasBins (ueg contexts prefix k most) value
    short below =
        let test : ltb value prefix ≡ true = lt-ltb value prefix below in
        then_has (unary contexts prefix) (ueg_behind prefix k most) value value (unary_has contexts prefix value (omega (arith, below))) (rw test (refl, refl))

    long : prefix ≤ value → HasBins (ueg contexts prefix k most) value
    long from =
        let test : ltb prefix prefix ≡ false = le-ltb prefix prefix (omega arith) in
        let rest : HasBins (suffix k most >>= (λ more. Value (prefix + more))) value =
        then_has (suffix k most) (λ more. Value (prefix + more)) (value - prefix) value (suffix_has k most (value - prefix) (omega (arith, h, from))) (omega (arith, from), refl) in
        then_has (unary contexts prefix) (ueg_behind prefix k most) prefix value (unary_has contexts prefix prefix (omega arith)) (rw test rest)

pub signed_has : (greatest : ℕ) (value : ℤ) → unsigned_abs value ≤ greatest → HasBins (signed greatest (unsigned_abs value)) value
unfolding signed
signed_has greatest (pos zero) h = (refl, refl)
signed_has greatest (pos (suc n)) h =
    let some : eqb (suc n) 0 ≡ false = grind (arith, nat_tests) in
    let small : ltb greatest (suc n) ≡ false = le-ltb greatest (suc n) h in
    rw (some, small) (false, false, (refl, refl), (refl, refl))
signed_has greatest (negsuc n) h =
    let some : eqb (suc n) 0 ≡ false = grind (arith, nat_tests) in
    let small : ltb greatest (suc n) ≡ false = le-ltb greatest (suc n) h in
    rw (some, small) (true, false, (refl, refl), (refl, refl))

-- ---- numbers of few values, by a test

-- whether a number is found behind bins of which none is an end bin of 1, or behind those of which the last one is
abbrev finds : ℕ → Bool → Bool → BinString ℕ → Bool
finds n last over (Value x) = eqb x n && beq over last
finds n last over NoValue = false
finds n last true (Next slot rest) = false
finds n last false (Next slot rest) = finds n last (is_last slot (Some false)) (rest false) || finds n last (is_last slot (Some true)) (rest true)

either : (a b : Bool) → (a || b) ≡ true → (a ≡ true) ⊎ (b ≡ true)
either true b e = inl refl
either false b e = inr e

found : (n : ℕ) (last over : Bool) (string : BinString ℕ) → finds n last over string ≡ true → Writes Takes string n over last
found n last over (Value x) e =
    let parts = and_parts (eqb x n) (beq over last) e in
    (eqb-true x n parts.0, same over last parts.1)
  where
    same : (a b : Bool) → beq a b ≡ true → a ≡ b
    same true true h = refl
    same true false h = absurd cc
    same false true h = absurd cc
    same false false h = refl
found n last over NoValue e = absurd cc
found n last true (Next slot rest) e = absurd cc
found n last false (Next slot rest) e =
    elim (either (finds n last (is_last slot (Some false)) (rest false)) (finds n last (is_last slot (Some true)) (rest true)) e) [
      | inl low ↦ (false, is_last slot (Some false), (refl, refl), found n last (is_last slot (Some false)) (rest false) low)
      | inr high ↦ (true, is_last slot (Some true), (refl, refl), found n last (is_last slot (Some true)) (rest true) high)
    ]

-- whether so many numbers from a first one on are found
abbrev finds_from : ℕ → ℕ → BinString ℕ → Bool
finds_from low zero string = true
finds_from low (suc n) string = finds (low + n) false false string && finds_from low n string

few_have : (low count : ℕ) (string : BinString ℕ) → finds_from low count string ≡ true → (n : ℕ) → low ≤ n → n < low + count → HasBins string n
few_have low zero string e n from to = absurd (omega (arith, from, to))
few_have low (suc count) string e n from to =
    let parts = and_parts (finds (low + count) false false string) (finds_from low count string) e in
    elim (eqb_tells n (low + count)) [
      | inl is ↦ subst (HasBins string) (sym is.1) (found (low + count) false false string parts.0)
      | inr apart ↦ few_have low count string parts.1 n from (omega (arith, to, apart.1))
    ]

-- ---- elements

pub mode_has : (value : ℕ) → value ≤ 7 → HasBins mode value
mode_has value h = few_have 0 8 mode refl value (omega arith) (omega (arith, h))

pub chroma_mode_has : (inc value : ℕ) → value ≤ 3 → HasBins (chroma_mode inc) value
chroma_mode_has inc value h = unary_has _ 3 value h

pub ref_idx_has : (inc value : ℕ) → value ≤ 31 → HasBins (ref_idx inc) value
ref_idx_has inc value h =
    writes_then Takes (unary _ 32) _ value value false false false (unary_has _ 32 value (omega (arith, h))) (writes_only Takes _ value false (index_of-small value h))

place_small : (value : ℤ) → negsuc 25 ≤ℤ value → value ≤ℤ pos 25 → place_of value ≤ 53
place_small (pos n) low high = let small : n ≤ 25 = omega (arith, ints) in omega (arith, small)
place_small (negsuc n) low high = let small : n ≤ 25 = omega (arith, ints) in omega (arith, small)

pub qp_delta_has : (inc : ℕ) (value : ℤ) → negsuc 25 ≤ℤ value → value ≤ℤ pos 25 → HasBins (qp_delta inc) value
qp_delta_has inc value low high =
    then_has (unary _ 53) (λ place. only (delta place)) (place_of value) value (unary_has _ 53 (place_of value) (place_small value low high)) (writes_only Takes (delta (place_of value)) value false (delta-place_of value low high))

pub mvd_has : (ctx inc : ℕ) (value : ℤ) → unsigned_abs value ≤ 32767 → HasBins (mvd ctx inc) value
mvd_has ctx inc value h =
    then_has (ueg _ 9 3 12) (signed 32767) (unsigned_abs value) value (ueg_has _ 9 3 12 (unsigned_abs value) (omega (arith, h))) (signed_has 32767 value h)

-- ---- types, of which that of I_PCM ends in an end bin of 1

pub type_i_has : (inc value : ℕ) → value ≤ 24 → HasBins (type_i inc) value
unfolding ◌>>=◌ up_to_two two_bits intra_parts intra
type_i_has inc value h = few_have 0 25 (type_i inc) refl value (omega arith) (omega (arith, h))

pub type_i_pcm : (inc : ℕ) → HasLastBins (type_i inc) 25
unfolding ◌>>=◌ up_to_two two_bits intra_parts intra
type_i_pcm inc = found 25 true false (type_i inc) refl

pub type_p_has : (value : ℕ) → value ≤ 3 → HasBins type_p value
unfolding ◌>>=◌ up_to_two two_bits intra_parts intra intra_from
type_p_has value h = few_have 0 4 type_p refl value (omega arith) (omega (arith, h))

pub type_p_intra : (value : ℕ) → value ≤ 24 → HasBins type_p (5 + value)
unfolding ◌>>=◌ up_to_two two_bits intra_parts intra intra_from
type_p_intra value h = few_have 5 25 type_p refl (5 + value) (omega arith) (omega (arith, h))

pub type_p_pcm : HasLastBins type_p 30
unfolding ◌>>=◌ up_to_two two_bits intra_parts intra intra_from
type_p_pcm = found 30 true false type_p refl

pub type_b_has : (inc value : ℕ) → value ≤ 47 → HasBins (type_b inc) value
unfolding ◌>>=◌ up_to_two two_bits three_bits intra_parts intra intra_from type_b_last type_b_more
type_b_has inc value h = few_have 0 48 (type_b inc) refl value (omega arith) (omega (arith, h))

pub type_b_pcm : (inc : ℕ) → HasLastBins (type_b inc) 48
unfolding ◌>>=◌ up_to_two two_bits three_bits intra_parts intra intra_from type_b_last type_b_more
type_b_pcm inc = found 48 true false (type_b inc) refl

pub sub_p_has : (value : ℕ) → value ≤ 3 → HasBins sub_p value
sub_p_has value h = few_have 0 4 sub_p refl value (omega arith) (omega (arith, h))

pub sub_b_has : (value : ℕ) → value ≤ 12 → HasBins sub_b value
unfolding two_bits sub_b_more
sub_b_has value h = few_have 0 13 sub_b refl value (omega arith) (omega (arith, h))

-- ---- whichever bin is the last one

abbrev pub AreSpelled : {A : Type 0} → BinString A → A → Type 0
AreSpelled string value = (bins : List (Slot × Bool)) × Spells string bins value

pub spelled_by : {A : Type 0} (string : BinString A) (value : A) (over : Bool) → Writes Takes string value false over → AreSpelled string value
spelled_by string value over h = let b = bins_of string value over h in (b.0, b.1)

pub type_i_spelled : (inc number : ℕ) → number ≤ 25 → AreSpelled (type_i inc) number
type_i_spelled inc number h =
    elim (eqb_tells number 25) [
      | inl is ↦ subst (AreSpelled (type_i inc)) (sym is.1) (spelled_by (type_i inc) 25 true (type_i_pcm inc))
      | inr apart ↦ spelled_by (type_i inc) number false (type_i_has inc number (omega (arith, h, apart.1)))
    ]

pub type_p_spelled : (number : ℕ) → number ≤ 30 → number ≢ 4 → AreSpelled type_p number
type_p_spelled number h other =
    elim (eqb_tells number 30) [
      | inl is ↦ subst (AreSpelled type_p) (sym is.1) (spelled_by type_p 30 true type_p_pcm)
      | inr apart ↦ elim (leb_tells 5 number) [
        | inl from ↦ let e : 5 + (number - 5) ≡ number = omega (arith, from.1) in subst (AreSpelled type_p) e (spelled_by type_p (5 + (number - 5)) false (type_p_intra (number - 5) (omega (arith, h, apart.1))))
        | inr few ↦ spelled_by type_p number false (type_p_has number (omega (arith, few.1, other)))
      ]
    ]

pub type_b_spelled : (inc number : ℕ) → number ≤ 48 → AreSpelled (type_b inc) number
type_b_spelled inc number h =
    elim (eqb_tells number 48) [
      | inl is ↦ subst (AreSpelled (type_b inc)) (sym is.1) (spelled_by (type_b inc) 48 true (type_b_pcm inc))
      | inr apart ↦ spelled_by (type_b inc) number false (type_b_has inc number (omega (arith, h, apart.1)))
    ]
