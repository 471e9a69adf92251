-- How often a range is doubled, by its leading zeros.
use Rattle.std.proofs.Common.{◌≡◌, ℕ, zero, suc, Bool, true, false, refl, sym, ap, ◌+◌, ◌*◌, ◌%◌, ◌^◌, ◌<◌, ◌≤◌, bit_and, arith, inl, inr}
use Rattle.std.specs.Prelude.{nat_lt}
use Rattle.std.specs.Int.{from_bool}
use Rattle.std.proofs.lemmas.Bool.{cases_order, ltb-true, lt-ltb}
use Rattle.std.proofs.lemmas.Nat.{leading_top, mul-le, and_mask}
use Rattle.std.proofs.Math.Pow.{pow_mono}
use Rattle.std.specs.Int.Count.{count_leading_zeros}
use Rattle.cabac_interval.specs.Interval.{doublings_of}
use Rattle.cabac_interval.proofs.Doubling.{doubles}

-- the place of the highest digit is one
same_top : (a i j : ℕ) → 2 ^ i ≤ a → a < 2 ^ suc i → 2 ^ j ≤ a → a < 2 ^ suc j → i ≡ j
same_top a i j li hi lj hj =
    elim (cases_order i j) [
      | inl e ↦ e
      | inr (inl lt) ↦ absurd (let p : 2 ^ suc i ≤ 2 ^ j = pow_mono {i = suc i} {j = j} lt in omega (arith, p))
      | inr (inr gt) ↦ absurd (let p : 2 ^ suc j ≤ 2 ^ i = pow_mono {i = suc j} {j = i} gt in omega (arith, p))
    ]

-- the leading zeros of sixteen bits are seven more than those of nine
leading_of_sixteen : (range : ℕ) → 0 < range → range < 512 → count_leading_zeros 16 range ≡ doublings_of range + 7
leading_of_sixteen range some below =
    let nine = leading_top 9 range some below in
    let sixteen = leading_top 16 range some (omega arith) in
    let same = same_top range nine.0 sixteen.0 nine.2 nine.3 sixteen.2 sixteen.3 in
    omega (arith, nine.1, sixteen.1, same)

-- a range of at least two isn't doubled eight times
few_doublings : (range : ℕ) → 2 ≤ range → range < 512 → doublings_of range ≤ 7
few_doublings range some below = elim (cases_order (doublings_of range) 8) [
  | inl e ↦ absurd (many (omega (arith, e)))
  | inr (inl lt) ↦ omega arith
  | inr (inr gt) ↦ absurd (many (omega arith))
]
  where
    many : 8 ≤ doublings_of range → ⊥
    many h =
        let p : 2 ^ 8 ≤ 2 ^ doublings_of range = pow_mono {i = 8} {j = doublings_of range} h in
        omega (arith, mul-le 2 256 range (2 ^ doublings_of range) some p, (doubles range (omega arith) below).high)

-- they are the lowest three bits of a number
pub counted_doublings : (range : ℕ) → 2 ≤ range → range < 512 → bit_and (count_leading_zeros 16 range + 1) 7 ≡ doublings_of range
counted_doublings range some below =
    let low : bit_and (count_leading_zeros 16 range + 1) 7 ≡ (count_leading_zeros 16 range + 1) % 8 = and_mask (count_leading_zeros 16 range + 1) 3 in
    omega (arith, low, leading_of_sixteen range (omega arith) below, few_doublings range some below)

-- a range of at least 128 is doubled once, and one of at least 256 not at all
once_at_most : (range n : ℕ) → 128 ≤ range → range * 2 ^ n < 512 → n ≤ 1
once_at_most range zero many h = omega arith
once_at_most range (suc zero) many h = omega arith
once_at_most range (suc (suc n)) many h = absurd (
    let p : 2 ^ 2 ≤ 2 ^ suc (suc n) = pow_mono {i = 2} {j = suc (suc n)} (omega arith) in
    omega (arith, mul-le 128 4 range (2 ^ suc (suc n)) many p, h)
    )

as_low : (range n : ℕ) → n ≤ 1 → 256 ≤ range * 2 ^ n → range * 2 ^ n < 512 → n ≡ from_bool (nat_lt range 256)
as_low range zero few low high = sym (ap from_bool (above (nat_lt range 256) refl))
  where
    above : (b : Bool) → nat_lt range 256 ≡ b → b ≡ false
    above true e = absurd (omega (arith, ltb-true range 256 e, low))
    above false e = refl
as_low range (suc zero) few low high = sym (ap from_bool (lt-ltb range 256 (omega (arith, high))))
as_low range (suc (suc n)) few low high = absurd (omega arith)

pub doublings_are : (range : ℕ) → 128 ≤ range → range < 512 → from_bool (nat_lt range 256) ≡ doublings_of range
doublings_are range many below =
    let d = doubles range (omega arith) below in
    sym (as_low range (doublings_of range) (once_at_most range (doublings_of range) many d.high) d.low d.high)
