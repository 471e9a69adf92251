-- What a further bin makes of an encoder.
use Rattle.std.proofs.Common.{◌≡◌, ℕ, ◌+◌, ◌-◌, ◌*◌, ◌/◌, ◌%◌, ◌^◌, ◌<◌, ◌≤◌, inr, Bool, true, false, List, [], ◌∷◌, ◌++◌, length, refl, sym, ap, subst, ◌∙◌, arith, cond, bit_and, length-append}
use Rattle.std.specs.Prelude.{Result, Ok, Err, OnOk}
use Rattle.std.specs.Bool.{beq}
use Rattle.std.specs.Int.{from_bool}
use Rattle.std.proofs.lemmas.Nat.{and_mask, pow-add}
use Rattle.bit_texts.specs.Bits.{number, binary}
use Rattle.bit_texts.proofs.Numbers.{number-append, number-binary, number-same, length-binary, number-push}
use Rattle.cabac_interval.specs.Tables.{range_lps}
use Rattle.cabac_interval.specs.Interval.{Kind, context, bypass, Bin, Interval, doublings_of, renormalised, without_upper, upper, lps_of, after, interval, IsKind, is_end, IsSegment, with_bin}
use Rattle.cabac_interval.specs.Laws.{LiesWithin}
use Rattle.cabac_interval.proofs.Lists.{IsOpen-push, nested}
use Rattle.cabac_engine.specs.LowBits.{Renormalises}
use Rattle.cabac_engine.specs.Encoding.{Encoding, IsEncoding, Stands, HasEncoded, Encodes, Closes}
use Rattle.cabac_engine.proofs.Decoded.{interval-with_bin}

power_of : (s d : ℕ) → 2 ^ (9 + (s + d)) ≡ 2 ^ (9 + s) * 2 ^ d
power_of s d = ap (λ k. 2 ^ k) (let e : 9 + (s + d) ≡ (9 + s) + d = omega arith in e) ∙ pow-add 2 (9 + s) d

-- a part of the interval was taken and doubled
Stands-renormalised : (before : List Bool) (i j : Interval) (skipped range : ℕ) (old new : Encoding) → Stands before i old
    → j.low ≡ i.low + skipped → j.range ≡ range → j.doublings ≡ i.doublings → Renormalises skipped range old new → Stands before (renormalised j) new
Stands-renormalised before i j skipped range old new s low e same r =
    let d = doublings_of range in
    let n = doublings_of j.range in
    let count : n ≡ d = ap doublings_of e in
    let power : 2 ^ n ≡ 2 ^ d = ap (λ k. 2 ^ k) count in
    let front = number before * 2 ^ (9 + i.doublings) in
    let moved : (old.number + skipped) * 2 ^ d ≡ (front + j.low) * 2 ^ d = ap (λ k. k * 2 ^ d) (omega (arith, s.number_is, low)) in
    let upper_part : number before * 2 ^ (9 + (j.doublings + n)) ≡ number before * (2 ^ (9 + i.doublings) * 2 ^ d) =
    ap (λ k. number before * k) (power_of j.doublings n ∙ ap (λ k. 2 ^ (9 + k) * 2 ^ n) same ∙ ap (λ k. 2 ^ (9 + i.doublings) * k) power) in
    let lower_part : j.low * 2 ^ n ≡ j.low * 2 ^ d = ap (λ k. j.low * k) power in
    record {
      size_is = omega (arith, r.size, s.size_is, same, count);
      number_is = omega (arith, r.number_is, moved, upper_part, lower_part);
      range_is = r.range_is ∙ ap (λ k. k * 2 ^ d) (sym e) ∙ ap (λ k. j.range * k) (sym power);
    }

HasEncoded-more : (before : List Bool) (bins : List Bin) (kind : Kind) (bit : Bool) (old new : Encoding)
    → HasEncoded before bins old → IsEncoding old → IsKind kind → is_end kind bit ≡ false → IsEncoding new
    → Stands before (after (interval bins) kind bit) new → HasEncoded before (with_bin bins kind bit) new
HasEncoded-more before bins kind bit old new h opened is_kind e low s = record {
  stands = subst (λ i. Stands before i new) (sym (interval-with_bin bins kind bit)) s;
  so_far = λ _. IsOpen-push bins (record { kind = kind; bit = bit }) (h.so_far opened) is_kind e;
  ended = λ few. absurd (omega arith);
}

-- the lower part was taken
pub encoded_lower : (kind : Kind) (bit : Bool) (size range : ℕ) (old new : Encoding) → IsKind kind → is_end kind bit ≡ false → IsEncoding old → IsEncoding new → range ≡ old.range - size
    → ((i : Interval) → i.range ≡ old.range → renormalised (without_upper size i) ≡ after i kind bit)
    → Renormalises 0 range old new → Encodes kind bit old new
encoded_lower kind bit size range old new is_kind e opened low is_lower same r before bins h =
    let i = interval bins in
    let j = without_upper size i in
    let part : j.range ≡ range = ap (λ k. k - size) (sym h.stands.range_is) ∙ sym is_lower in
    HasEncoded-more before bins kind bit old new h opened is_kind e low
    (subst (λ k. Stands before k new) (same i (sym h.stands.range_is)) (Stands-renormalised before i j 0 range old new h.stands (omega arith) part refl r))

-- the upper part was taken
pub encoded_upper : (kind : Kind) (bit : Bool) (size skipped : ℕ) (old new : Encoding) → IsKind kind → is_end kind bit ≡ false → IsEncoding old → IsEncoding new → skipped ≡ old.range - size
    → ((i : Interval) → i.range ≡ old.range → renormalised (upper size i) ≡ after i kind bit)
    → Renormalises skipped size old new → Encodes kind bit old new
encoded_upper kind bit size skipped old new is_kind e opened low is_lower same r before bins h =
    let i = interval bins in
    HasEncoded-more before bins kind bit old new h opened is_kind e low
    (subst (λ k. Stands before k new) (same i (sym h.stands.range_is))
    (Stands-renormalised before i (upper size i) skipped size old new h.stands (omega (arith, is_lower, h.stands.range_is)) refl refl r))

pub context_lower : (p lps : ℕ) (mps bit : Bool) (range : ℕ) → lps ≡ lps_of p range → beq bit mps ≡ true
    → (i : Interval) → i.range ≡ range → renormalised (without_upper lps i) ≡ after i (context p mps) bit
context_lower p lps mps bit range e t i f =
    ap (λ k. renormalised (without_upper k i)) (e ∙ ap (lps_of p) (sym f))
    ∙ ap (λ b. renormalised (cond b (without_upper (lps_of p i.range) i) (upper (lps_of p i.range) i))) (sym t)

pub context_upper : (p lps : ℕ) (mps bit : Bool) (range : ℕ) → lps ≡ lps_of p range → beq bit mps ≡ false
    → (i : Interval) → i.range ≡ range → renormalised (upper lps i) ≡ after i (context p mps) bit
context_upper p lps mps bit range e t i f =
    ap (λ k. renormalised (upper k i)) (e ∙ ap (lps_of p) (sym f))
    ∙ ap (λ b. renormalised (cond b (without_upper (lps_of p i.range) i) (upper (lps_of p i.range) i))) (sym t)

-- the range of the least probable value, as the quarter of the range is computed
pub lps_encoded : (p lps r range : ℕ) → lps ≡ range_lps p (bit_and (r / 64) 3) → r ≡ range → lps ≡ lps_of p range
lps_encoded p lps r range h e =
    let quarter : bit_and (r / 64) 3 ≡ r / 64 % 4 = and_mask (r / 64) 2 in
    h ∙ ap (range_lps p) quarter ∙ ap (lps_of p) e

-- both hold where nothing was refused
pub on_both : {T E P Q R : Type 0} (r : Result T E) → (P → Q → R) → OnOk r P → OnOk r Q → OnOk r R
on_both (Ok x) f p q = f p q
on_both (Err e) f p q = tt

-- ---- a bypass bin

pub encoded_bypass : (bit : Bool) (old new : Encoding) → IsEncoding old → new.range ≡ old.range
    → new.size ≡ old.size + 1 → new.number ≡ 2 * old.number + from_bool bit * old.range → Encodes bypass bit old new
encoded_bypass bit old new opened range size number_is before bins h =
    let i = interval bins in
    let s = h.stands in
    let twice : number before * 2 ^ (9 + (i.doublings + 1)) ≡ number before * (2 ^ (9 + i.doublings) * 2) = ap (λ k. number before * k) (power_of i.doublings 1) in
    let part : from_bool bit * old.range ≡ from_bool bit * i.range = ap (λ k. from_bool bit * k) s.range_is in
    HasEncoded-more before bins bypass bit old new h opened tt refl (omega (arith, opened, range))
    (record {
      size_is = omega (arith, size, s.size_is);
      number_is = omega (arith, number_is, s.number_is, twice, part);
      range_is = range ∙ s.range_is;
    })

-- ---- the last bits

-- the interval of a segment lies below the numbers of its bits
segment_fits : (bins : List Bin) → IsSegment bins → (interval bins).low + (interval bins).range ≤ 510 * 2 ^ (interval bins).doublings
segment_fits bins s =
    let w : LiesWithin (interval bins) (interval []) = nested [] bins (inr s) in
    let count : w.more ≡ (interval bins).doublings = omega (arith, w.doublings_are) in
    let power : 510 * 2 ^ w.more ≡ 510 * 2 ^ (interval bins).doublings = ap (λ k. 510 * 2 ^ k) count in
    omega (arith, w.below, power)

pub closed : (before bits : List Bool) (bins : List Bin) (e : Encoding) → e.range ≡ 2 → HasEncoded before bins e
    → length bits ≡ e.size → number bits ≡ e.number / 2 * 2 + 1 → Closes before bins bits
closed before bits bins e ended h size value =
    let i = interval bins in
    let s = h.stands in
    let segment = h.ended (omega (arith, ended)) in
    let n = 8 + i.doublings in
    let half = i.low / 2 in
    let front = binary n half in
    let code = front ++ true ∷ [] in
    let eight : 2 ^ n ≡ 256 * 2 ^ i.doublings = pow-add 2 8 i.doublings in
    let nine : 2 ^ (9 + i.doublings) ≡ 512 * 2 ^ i.doublings = pow-add 2 9 i.doublings in
    let small : half < 2 ^ n = omega (arith, segment_fits bins segment, eight, s.range_is, ended) in
    let code_number : number code ≡ 2 * half + 1 = number-push front true ∙ ap (λ k. 2 * k + 1) (number-binary n half small) in
    let code_size : length code ≡ 9 + i.doublings = omega (arith, length-append front (true ∷ []), length-binary n half) in
    let upper_part : number before * 2 ^ (9 + i.doublings) ≡ number before * (512 * 2 ^ i.doublings) = ap (λ k. number before * k) nine in
    let joined : number (before ++ code) ≡ number before * 2 ^ (9 + i.doublings) + number code =
    number-append before code ∙ ap (λ k. number before * 2 ^ k + number code) code_size in
    let same : bits ≡ before ++ code = number-same bits (before ++ code)
    (omega (arith, size, s.size_is, code_size, length-append before code))
    (omega (arith, value, s.number_is, upper_part, joined, code_number)) in
    record {
      code = code;
      bits_are = same;
      closing = record {
        is_code = record {
          segment = segment;
          size = code_size;
          above = omega (arith, code_number);
          below = omega (arith, code_number, s.range_is, ended);
        };
        last_is_one = (front, refl);
      };
    }
