-- The bins of a segment have a code whose last bit is 1.
use Rattle.std.proofs.Common.{◌≡◌, ℕ, ◌+◌, ◌*◌, ◌/◌, ◌^◌, ◌≤◌, inr, Bool, true, List, [], refl, sym, ap, subst, ◌∙◌, arith}
use Rattle.std.proofs.lemmas.Nat.{pow-add}
use Rattle.bit_texts.specs.Bits.{number, binary}
use Rattle.bit_texts.proofs.Numbers.{length-binary, number-binary, binary-push}
use Rattle.cabac_interval.specs.Interval.{Bin, interval, IsSegment}
use Rattle.cabac_interval.specs.Laws.{IsClosingCode}
use Rattle.cabac_interval.proofs.Lists.{nested, segment_range}

-- a number of nine bits and more
below_power : (low more : ℕ) → low + 2 ≤ (0 + 510) * 2 ^ more → low + 2 ≤ 2 ^ (9 + more)
below_power low more h =
    let split : 2 ^ (9 + more) ≡ 2 ^ 9 * 2 ^ more = pow-add 2 9 more in
    let nine : 2 ^ 9 ≡ 512 = refl in
    let whole : 2 ^ (9 + more) ≡ 512 * 2 ^ more = split ∙ ap (λ (n : ℕ). n * 2 ^ more) nine in
    omega (arith, h, whole)

pub has_closing : (bins : List Bin) → IsSegment bins → (code : List Bool) × IsClosingCode bins code
has_closing bins segment =
    let i = interval bins in
    let size : ℕ = 8 + i.doublings in
    let all : size + 1 ≡ 9 + i.doublings = omega arith in
    let within = nested [] bins (inr segment) in
    let range = segment_range bins segment in
    let more : i.doublings ≡ within.more = omega (arith, within.doublings_are) in
    let most : i.low + 2 ≤ (0 + 510) * 2 ^ i.doublings = subst (λ (n : ℕ). i.low + 2 ≤ (0 + 510) * 2 ^ n) (sym more) (subst (λ (r : ℕ). i.low + r ≤ (0 + 510) * 2 ^ within.more) range within.below) in
    let high = below_power i.low i.doublings most in
    let odd : ℕ = 2 * (i.low / 2) + 1 in
    let value : number (binary (9 + i.doublings) odd) ≡ odd = number-binary (9 + i.doublings) odd (omega (arith, high)) in (
      binary (9 + i.doublings) odd,
      record {
        is_code = record { segment = segment; size = length-binary (9 + i.doublings) odd; above = omega (arith, value); below = omega (arith, value, range) };
        last_is_one = (binary size (i.low / 2), ap (λ (n : ℕ). binary n odd) (sym all) ∙ binary-push size (i.low / 2) true);
      },
    )
