-- how often a range is doubled
use Rattle.std.proofs.Common.{◌≡◌, ℕ, suc, ◌+◌, ◌*◌, ◌^◌, ◌<◌, ◌≤◌, sym, ap, ◌∙◌, arith}
use Rattle.std.proofs.lemmas.Nat.{pow-add, leading_top, pow_pos}
use Rattle.std.proofs.Math.Nat.{mul-le-mul_right, mul-lt-mul_of_pos_right}
use Rattle.cabac_interval.specs.Interval.{doublings_of}

pub record Doubles (range n : ℕ) : Type 0 where
  pub low : 256 ≤ range * 2 ^ n
  pub high : range * 2 ^ n < 512
  pub few : n ≤ 8

-- the doublings bring a range up to 256, and not up to 512
pub doubles : (range : ℕ) → 0 < range → range < 512 → Doubles range (doublings_of range)
doubles range some below =
    let top = leading_top 9 range some below in
    let n = doublings_of range in
    let whole : 2 ^ top.0 * 2 ^ n ≡ 2 ^ 8 = sym (pow-add 2 top.0 n) ∙ ap (λ k. 2 ^ k) (let e : top.0 + n ≡ 8 = omega (arith, top.1) in e) in
    let twice : 2 ^ suc top.0 * 2 ^ n ≡ 2 ^ 9 = sym (pow-add 2 (suc top.0) n) ∙ ap (λ k. 2 ^ k) (let e : suc top.0 + n ≡ 9 = omega (arith, top.1) in e) in
    record {
      low = omega (arith, whole, mul-le-mul_right (2 ^ n) top.2);
      high = omega (arith, twice, mul-lt-mul_of_pos_right top.3 (pow_pos n));
      few = omega (arith, top.1);
    }
