-- What the writers of codes put.
use Rattle.std.proofs.Common.{◌≡◌, ℕ, ◌+◌, ◌*◌, ◌/◌, ◌^◌, ◌<◌, ◌≤◌, eqb, arith, false, [], ◌∷◌, ◌++◌, refl, sym, ap, ◌∙◌}
use Rattle.std.proofs.lemmas.Bool.Decides.{nat_tests}
use Rattle.std.proofs.Math.Nat.{pow-suc, div-eq_of_lt}
use Rattle.bit_texts.specs.Bits.{binary}
use Rattle.bit_texts.proofs.Numbers.{binary-zero, binary-add, pow_most, pow_next}
use Rattle.exp_golomb.specs.Code.{zeros_of, ue, te}
use Rattle.exp_golomb.proofs.Golomb.{zeros_of-digits}

-- a code is its zeros and then its digits
pub ue-is : (z value : ℕ) → 2 ^ z ≤ value + 1 → value + 1 < 2 * 2 ^ z → value < 4294967295 → ue value ≡ binary z 0 ++ binary (z + 1) (value + 1)
unfolding ue
ue-is z value low high small =
    let digits : zeros_of value ≡ z = zeros_of-digits z value low (omega (arith, pow-suc 2 z)) small in
    rw (digits, binary-zero z) refl

-- which are one number of 2 * z + 1 digits
pub ue-one_number : (z value : ℕ) → 2 ^ z ≤ value + 1 → value + 1 < 2 * 2 ^ z → value < 4294967295 → binary (2 * z + 1) (value + 1) ≡ ue value
ue-one_number z value low high small =
    let size : 2 * z + 1 ≡ z + (z + 1) = omega arith in
    let none : (value + 1) / 2 ^ (z + 1) ≡ 0 = div-eq_of_lt (omega (arith, high, pow_next z)) in
    ap (λ k. binary k (value + 1)) size ∙ binary-add z (z + 1) (value + 1) ∙ ap (λ k. binary z k ++ binary (z + 1) (value + 1)) none ∙ sym (ue-is z value low high small)

pub ue-fits : (z value : ℕ) → value + 1 < 2 * 2 ^ z → value + 1 < 2 ^ (2 * z + 1)
ue-fits z value high = let p = pow_most (z + 1) (2 * z + 1) (omega arith) in omega (arith, high, p, pow_next z)

pub te_is_ue : (greatest value : ℕ) → (greatest ≡ 1 → ⊥) → te greatest value ≡ ue value
unfolding te
te_is_ue greatest value h = let long : eqb greatest 1 ≡ false = grind (arith, nat_tests) in rw long refl

pub te_is_bit : (greatest value : ℕ) → greatest ≡ 1 → te greatest value ≡ eqb value 0 ∷ []
unfolding te
te_is_bit greatest value h = rw h refl
