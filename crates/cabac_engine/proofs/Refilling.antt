-- What the doublings of a range make of the offset
use Rattle.std.proofs.Common.{◌≡◌, ℕ, ◌+◌, ◌-◌, ◌*◌, ◌^◌, ◌<◌, ◌≤◌, ◌%◌, Bool, true, false, List, length, refl, sym, ap, subst, ◌∙◌, arith, cond, length-drop}
use Rattle.std.proofs.Math.Nat.{mul-le-mul_right, mod-eq_of_lt}
use Rattle.bit_texts.specs.Bits.{TakesNumber}
use Rattle.bit_texts.proofs.Numbers.{TakesNumber-below, TakesNumber-append}
use Rattle.cabac_interval.specs.Interval.{doublings_of, Interval, renormalised, without_upper, upper, Begins}
use Rattle.cabac_interval.proofs.Doubling.{doubles}
use Rattle.cabac_interval.proofs.Doubling as ranges
use Rattle.cabac_interval.proofs.Parts.{parts_apart, Begins-doubled}
use Rattle.cabac_engine.specs.Decoding.{Decoding, Refills, Points}
use Rattle.cabac_engine.specs.OffsetBits.{Doubles}

-- the doubled range and offset fit, and the offset stays within the range
pub record Room (range offset n value : ℕ) : Type 0 where
  pub range_low : 256 ≤ range * 2 ^ n
  pub range_high : range * 2 ^ n < 512
  pub value_high : value < 512
  pub within : offset * 2 ^ n + value < range * 2 ^ n

pub room : (range offset n value : ℕ) (left new_left : List Bool) → 0 < range → range < 512 → offset < range → n ≡ doublings_of range → TakesNumber n value left new_left → Room range offset n value
room range offset n value left new_left some below within e t =
    let d = subst (ranges.Doubles range) (sym e) (doubles range some below) in
    let small = TakesNumber-below n value left new_left t in
    let step : (offset + 1) * 2 ^ n ≤ range * 2 ^ n = mul-le-mul_right (2 ^ n) (let h : offset + 1 ≤ range = omega arith in h) in
    record {
      range_low = d.low;
      range_high = d.high;
      value_high = omega (arith, small, step, d.high);
      within = omega (arith, small, step);
    }

pub refilled : (range offset n new_offset : ℕ) (left new_left : List Bool) → 0 < range → range < 512 → offset < range → n ≡ doublings_of range → Doubles n offset new_offset left new_left
    → Refills range offset (range * 2 ^ n % 65536) new_offset left new_left
refilled range offset n new_offset left new_left some below within e d =
    let r = room range offset n d.value left new_left some below within e d.taken in
    let small_range : range * 2 ^ n % 65536 ≡ range * 2 ^ n = mod-eq_of_lt (omega (arith, r.range_high)) in
    record {
      value = d.value;
      taken = subst (λ k. TakesNumber k d.value left new_left) e d.taken;
      range_is = small_range ∙ ap (λ k. range * 2 ^ k) e;
      low = omega (arith, small_range, r.range_low);
      within = omega (arith, small_range, r.within, d.offset_is);
      offset_is = d.offset_is ∙ ap (λ k. offset * 2 ^ k + d.value) e;
    }

-- the offset has room for the bits that come to it
pub record OffsetRoom (range offset n : ℕ) : Type 0 where
  pub few : n ≤ 8
  pub fits : (offset + 1) * 2 ^ n ≤ 1024
  pub range_high : range * 2 ^ n % 65536 < 512

pub offset_room : (range offset n : ℕ) → 0 < range → range < 512 → offset < range → n ≡ doublings_of range → OffsetRoom range offset n
offset_room range offset n some below within e =
    let d = subst (ranges.Doubles range) (sym e) (doubles range some below) in
    let step : (offset + 1) * 2 ^ n ≤ range * 2 ^ n = mul-le-mul_right (2 ^ n) (let h : offset + 1 ≤ range = omega arith in h) in
    record { few = d.few; fits = omega (arith, d.high, step); range_high = omega (arith, d.high) }

-- ---- the number that was taken, and the interval

pub Points-renormalised : (all : List Bool) (i : Interval) (range offset new_range new_offset : ℕ) (left new_left : List Bool) → Points all i range offset left → Refills range offset new_range new_offset left new_left → Points all (renormalised i) new_range new_offset new_left
Points-renormalised all i range offset new_range new_offset left new_left p r =
    let n = doublings_of range in
    let same : n ≡ doublings_of i.range = ap doublings_of p.range_is in
    let m = doublings_of i.range in
    let both = TakesNumber-append (9 + i.doublings) n (i.low + offset) r.value all left new_left p.taken r.taken in
    let size : (9 + i.doublings) + n ≡ 9 + (i.doublings + m) = omega (arith, same) in
    let power : 2 ^ n ≡ 2 ^ m = ap (λ k. 2 ^ k) same in
    let value : (i.low + offset) * 2 ^ n + r.value ≡ i.low * 2 ^ m + new_offset =
    omega (arith, r.offset_is, ap (λ k. i.low * k) power) in
    record {
      taken = subst (λ k. TakesNumber k (i.low * 2 ^ m + new_offset) all new_left) size (subst (λ v. TakesNumber ((9 + i.doublings) + n) v all new_left) value both);
      range_is = r.range_is ∙ ap (λ k. range * k) power ∙ ap (λ k. k * 2 ^ m) p.range_is;
      within = r.within;
    }

Points-lower : (all : List Bool) (i : Interval) (range offset size : ℕ) (left : List Bool) → Points all i range offset left → offset < range - size → Points all (without_upper size i) (range - size) offset left
Points-lower all i range offset size left p h = record { taken = p.taken; range_is = ap (λ r. r - size) p.range_is; within = h }

Points-upper : (all : List Bool) (i : Interval) (range offset size : ℕ) (left : List Bool) → Points all i range offset left → size ≤ range → range - size ≤ offset → Points all (upper size i) size (offset - (range - size)) left
Points-upper all i range offset size left p fits h =
    let value : i.low + offset ≡ i.low + (i.range - size) + (offset - (range - size)) = omega (arith, p.range_is) in
    record { taken = subst (λ v. TakesNumber (9 + i.doublings) v all left) value p.taken; range_is = refl; within = omega (arith, p.within) }

-- too few bits are left for the doublings
no_bits : (all : List Bool) (i : Interval) (range offset : ℕ) (left : List Bool) → Points all i range offset left → length left < doublings_of range → Begins all (renormalised i) → ⊥
no_bits all i range offset left p h b =
    let rest : length left ≡ length all - (9 + i.doublings) = ap length p.taken.left_is ∙ length-drop (9 + i.doublings) all in
    let same : doublings_of range ≡ doublings_of i.range = ap doublings_of p.range_is in
    omega (arith, rest, same, b.enough)

-- the bits begin with the number at the offset
Begins-points : (all : List Bool) (i : Interval) (range offset : ℕ) (left : List Bool) → Points all i range offset left → Begins all i
Begins-points all i range offset left p = record {
  enough = p.taken.enough;
  above = omega (arith, p.taken.value_is);
  below = omega (arith, p.taken.value_is, p.range_is, p.within);
}

pub stuck_lower : (all : List Bool) (i : Interval) (range offset size : ℕ) (left : List Bool) → Points all i range offset left → offset < range - size → length left < doublings_of (range - size)
    → (lower : Bool) → Begins all (renormalised (cond lower (without_upper size i) (upper size i))) → ⊥
stuck_lower all i range offset size left p h few true b = no_bits all (without_upper size i) (range - size) offset left (Points-lower all i range offset size left p h) few b
stuck_lower all i range offset size left p h few false b =
    parts_apart all size i (Begins-points all (without_upper size i) (range - size) offset left (Points-lower all i range offset size left p h)) (Begins-doubled all (doublings_of size) (upper size i) b)

pub stuck_upper : (all : List Bool) (i : Interval) (range offset size : ℕ) (left : List Bool) → Points all i range offset left → size ≤ range → range - size ≤ offset → length left < doublings_of size
    → (lower : Bool) → Begins all (renormalised (cond lower (without_upper size i) (upper size i))) → ⊥
stuck_upper all i range offset size left p fits h few false b = no_bits all (upper size i) size (offset - (range - size)) left (Points-upper all i range offset size left p fits h) few b
stuck_upper all i range offset size left p fits h few true b =
    parts_apart all size i (Begins-doubled all (doublings_of (i.range - size)) (without_upper size i) b) (Begins-points all (upper size i) size (offset - (range - size)) left (Points-upper all i range offset size left p fits h))

pub kept_lower : (all : List Bool) (i : Interval) (range offset size new_range new_offset : ℕ) (left new_left : List Bool) → Points all i range offset left → offset < range - size
    → Refills (range - size) offset new_range new_offset left new_left → Points all (renormalised (without_upper size i)) new_range new_offset new_left
kept_lower all i range offset size new_range new_offset left new_left p h r =
    Points-renormalised all (without_upper size i) (range - size) offset new_range new_offset left new_left (Points-lower all i range offset size left p h) r

pub kept_upper : (all : List Bool) (i : Interval) (range offset size new_range new_offset : ℕ) (left new_left : List Bool) → Points all i range offset left → size ≤ range → range - size ≤ offset
    → Refills size (offset - (range - size)) new_range new_offset left new_left → Points all (renormalised (upper size i)) new_range new_offset new_left
kept_upper all i range offset size new_range new_offset left new_left p fits h r =
    Points-renormalised all (upper size i) size (offset - (range - size)) new_range new_offset left new_left (Points-upper all i range offset size left p fits h) r

-- ---- the same, where the fields of a decoder are r, o and s
module _ (r o : ℕ) (t s : List Bool) (size : ℕ) (old new : Decoding) (view : ◌≡◌ {A = Decoding} (record { range = r; offset = o; taken = t; left = s }) old) where
  range_was : r ≡ old.range
  range_was = ap (λ d. d.range) view

  offset_was : o ≡ old.offset
  offset_was = ap (λ d. d.offset) view

  left_was : s ≡ old.left
  left_was = ap (λ d. d.left) view

  pub narrow_lower : o < r - size → Refills (r - size) old.offset new.range new.offset old.left new.left
      → (all : List Bool) (i : Interval) → Points all i old.range old.offset old.left → Points all (renormalised (without_upper size i)) new.range new.offset new.left
  narrow_lower h f all i p =
      kept_lower all i old.range old.offset size new.range new.offset old.left new.left p (omega (arith, h, range_was, offset_was))
      (subst (λ x. Refills (x - size) old.offset new.range new.offset old.left new.left) range_was f)

  pub narrow_upper : size ≤ old.range → r - size ≤ o → Refills size (o - (r - size)) new.range new.offset s new.left
      → (all : List Bool) (i : Interval) → Points all i old.range old.offset old.left → Points all (renormalised (upper size i)) new.range new.offset new.left
  narrow_upper fits h f all i p =
      kept_upper all i old.range old.offset size new.range new.offset old.left new.left p fits (omega (arith, h, range_was, offset_was))
      (subst (λ l. Refills size (old.offset - (old.range - size)) new.range new.offset l new.left) left_was
      (subst (λ x. Refills size x new.range new.offset s new.left) (let e : o - (r - size) ≡ old.offset - (old.range - size) = omega (arith, range_was, offset_was) in e) f))

  pub stuck_in_lower : o < r - size → length old.left < doublings_of (r - size)
      → (all : List Bool) (i : Interval) → Points all i old.range old.offset old.left → (lower : Bool) → Begins all (renormalised (cond lower (without_upper size i) (upper size i))) → ⊥
  stuck_in_lower h few all i p =
      stuck_lower all i old.range old.offset size old.left p (omega (arith, h, range_was, offset_was))
      (subst (λ x. length old.left < doublings_of (x - size)) range_was few)

  pub stuck_in_upper : size ≤ old.range → r - size ≤ o → length s < doublings_of size
      → (all : List Bool) (i : Interval) → Points all i old.range old.offset old.left → (lower : Bool) → Begins all (renormalised (cond lower (without_upper size i) (upper size i))) → ⊥
  stuck_in_upper fits h few all i p =
      stuck_upper all i old.range old.offset size old.left p fits (omega (arith, h, range_was, offset_was)) (subst (λ l. length l < doublings_of size) left_was few)
