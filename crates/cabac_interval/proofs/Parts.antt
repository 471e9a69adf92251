-- which bits begin with a number of an interval, of its parts and of what they are doubled to
use Rattle.std.proofs.Common.{◌≡◌, ℕ, ◌+◌, ◌-◌, ◌*◌, ◌^◌, ◌<◌, ◌≤◌, Bool, true, false, List, length, take, drop, length-drop, refl, sym, ap, ◌∙◌, arith, cond}
use Rattle.std.specs.Bool.{beq}
use Rattle.std.specs.Int.{from_bool}
use Rattle.std.proofs.lemmas.Bool.{false≢true}
use Rattle.std.proofs.Math.Nat.{mul-le-mul_right, lt_of_mul-lt-mul_right}
use Rattle.bit_texts.specs.Bits.{number}
use Rattle.bit_texts.proofs.Numbers.{number-window, number-take_below, from_bool-most}
use Rattle.cabac_interval.specs.Interval.{Kind, context, bypass, terminate, Interval, doubled, doublings_of, renormalised, without_upper, upper, lps_of, after, IsKind, is_end, Begins}
use Rattle.cabac_interval.proofs.Doubling.{doubles}
use Rattle.cabac_interval.proofs.Rows.{lps_within}

-- L * p ≤ N * p + t and t < p: L ≤ N
pub scaled_above : (l n p t : ℕ) → l * p ≤ n * p + t → t < p → l ≤ n
scaled_above l n p t h lt =
    let below : l * p < (n + 1) * p = omega arith in
    omega (arith, lt_of_mul-lt-mul_right p below)

pub scaled_below : (u n p t : ℕ) → n * p + t < u * p → n < u
scaled_below u n p t h =
    let below : n * p < u * p = omega arith in
    lt_of_mul-lt-mul_right p below

-- the bits of a doubled interval are those of the interval
pub Begins-doubled : (bits : List Bool) (n : ℕ) (i : Interval) → Begins bits (doubled n i) → Begins bits i
Begins-doubled bits n i b =
    let a = 9 + i.doublings in
    let within : a + n ≤ length bits = omega (arith, b.enough) in
    let same : 9 + (i.doublings + n) ≡ a + n = omega arith in
    let split = ap (λ k. number (take k bits)) same ∙ number-window bits a n within in
    let rest = number-take_below n (drop a bits) (omega (arith, within, length-drop a bits)) in
    let x = number (take a bits) in
    let t = number (take n (drop a bits)) in
    record {
      enough = omega (arith, b.enough);
      above = scaled_above i.low x (2 ^ n) t (omega (arith, b.above, split)) rest;
      below = scaled_below (i.low + i.range) x (2 ^ n) t (let h : x * 2 ^ n + t < i.low * 2 ^ n + i.range * 2 ^ n = omega (arith, b.below, split) in omega (arith, h));
    }

pub Begins-without_upper : (bits : List Bool) (r : ℕ) (i : Interval) → Begins bits (without_upper r i) → Begins bits i
Begins-without_upper bits r i b = record { enough = b.enough; above = b.above; below = omega (arith, b.below) }

pub Begins-upper : (bits : List Bool) (r : ℕ) (i : Interval) → r ≤ i.range → Begins bits (upper r i) → Begins bits i
Begins-upper bits r i h b = record { enough = b.enough; above = omega (arith, b.above); below = omega (arith, h, b.below) }

-- the two parts have no number in common
pub parts_apart : (bits : List Bool) (r : ℕ) (i : Interval) → Begins bits (without_upper r i) → Begins bits (upper r i) → ⊥
parts_apart bits r i lower high = omega (arith, lower.below, high.above)

-- what holds of both parts holds of the one that a bin takes
pub either_part : (P : Interval → Type 0) (c : Bool) (i j : Interval) → P i → P j → P (cond c i j)
either_part P true i j p q = p
either_part P false i j p q = q

part_Begins : (bits : List Bool) (c : Bool) (r : ℕ) (i : Interval) → r ≤ i.range → Begins bits (renormalised (cond c (without_upper r i) (upper r i))) → Begins bits i
part_Begins bits true r i h b = Begins-without_upper bits r i (Begins-doubled bits (doublings_of (i.range - r)) (without_upper r i) b)
part_Begins bits false r i h b = Begins-upper bits r i h (Begins-doubled bits (doublings_of r) (upper r i) b)

bypass_Begins : (bits : List Bool) (d : ℕ) (i : Interval) → d ≤ 1 → Begins bits (record { low = 2 * i.low + d * i.range; range = i.range; doublings = i.doublings + 1 }) → Begins bits i
bypass_Begins bits d i h b =
    let a = 9 + i.doublings in
    let within : a + 1 ≤ length bits = omega (arith, b.enough) in
    let same : 9 + (i.doublings + 1) ≡ a + 1 = omega arith in
    let split = ap (λ k. number (take k bits)) same ∙ number-window bits a 1 within in
    let rest = number-take_below 1 (drop a bits) (omega (arith, within, length-drop a bits)) in
    let most : d * i.range ≤ 1 * i.range = mul-le-mul_right i.range h in
    record {
      enough = omega (arith, b.enough);
      above = omega (arith, b.above, split, rest);
      below = omega (arith, b.below, split, rest, most);
    }

-- bits that begin with a number of an interval begin with one of the interval before the last bin
pub Begins-after : (bits : List Bool) (i : Interval) (k : Kind) (bit : Bool) → IsKind k → 256 ≤ i.range → Begins bits (after i k bit) → Begins bits i
Begins-after bits i (context p mps) bit kind low b = part_Begins bits (beq bit mps) (lps_of p i.range) i (omega (arith, (lps_within p i.range kind).1)) b
Begins-after bits i bypass bit kind low b = bypass_Begins bits (from_bool bit) i (from_bool-most bit) b
Begins-after bits i terminate false kind low b = part_Begins bits true 2 i (omega arith) b
Begins-after bits i terminate true kind low b = Begins-upper bits 2 i (omega arith) b

renormalised_apart : (bits : List Bool) (r : ℕ) (i : Interval) → Begins bits (renormalised (without_upper r i)) → Begins bits (renormalised (upper r i)) → ⊥
renormalised_apart bits r i lower high =
    parts_apart bits r i (Begins-doubled bits (doublings_of (i.range - r)) (without_upper r i) lower) (Begins-doubled bits (doublings_of r) (upper r i) high)

-- no bits begin with numbers of the intervals after both bits
pub one_bit : (bits : List Bool) (i : Interval) (k : Kind) → Begins bits (after i k true) → Begins bits (after i k false) → ⊥
one_bit bits i (context p true) one none = renormalised_apart bits (lps_of p i.range) i one none
one_bit bits i (context p false) one none = renormalised_apart bits (lps_of p i.range) i none one
one_bit bits i bypass one none = omega (arith, one.above, none.below)
one_bit bits i terminate one none =
    parts_apart bits 2 i (Begins-doubled bits (doublings_of (i.range - 2)) (without_upper 2 i) none) one

pub same_bit : (bits : List Bool) (i : Interval) (k : Kind) (a b : Bool) → Begins bits (after i k a) → Begins bits (after i k b) → a ≡ b
same_bit bits i k true true x y = refl
same_bit bits i k true false x y = absurd (one_bit bits i k x y)
same_bit bits i k false true x y = absurd (one_bit bits i k y x)
same_bit bits i k false false x y = refl

-- a range in which a further bin may be coded
pub record IsReady (i : Interval) : Type 0 where
  pub low : 256 ≤ i.range
  pub high : i.range < 512

renormalised_ready : (i : Interval) → 0 < i.range → i.range < 512 → IsReady (renormalised i)
renormalised_ready i some below = let d = doubles i.range some below in record { low = d.low; high = d.high }

pub IsReady-after : (i : Interval) (k : Kind) (bit : Bool) → IsKind k → is_end k bit ≡ false → IsReady i → IsReady (after i k bit)
IsReady-after i (context p mps) bit kind e ready =
    let r = lps_within p i.range kind in
    either_part (λ j. IsReady (renormalised j)) (beq bit mps) (without_upper (lps_of p i.range) i) (upper (lps_of p i.range) i)
    (renormalised_ready (without_upper (lps_of p i.range) i) (omega (arith, r.1, ready.low)) (omega (arith, ready.high)))
    (renormalised_ready (upper (lps_of p i.range) i) (omega (arith, r.0)) (omega (arith, r.1)))
IsReady-after i bypass bit kind e ready = record { low = ready.low; high = ready.high }
IsReady-after i terminate false kind e ready = renormalised_ready (without_upper 2 i) (omega (arith, ready.low)) (omega (arith, ready.high))
IsReady-after i terminate true kind e ready = absurd (false≢true (sym e))
