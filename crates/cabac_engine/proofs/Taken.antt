-- The bits that a decoder took, and those of a segment's code.
use Rattle.std.proofs.Common.{◌≡◌, ℕ, ◌+◌, ◌^◌, ◌<◌, ◌≤◌, inr, Bool, List, [], ◌∷◌, ◌++◌, length, take, drop, Option, Some, None, sym, ap, subst, ◌∙◌, arith, append_assoc, length-append, length-drop}
use Rattle.std.proofs.lemmas.List.{take-append-drop, length-take-le, take-append-le}
use Rattle.bit_texts.specs.Bits.{number}
use Rattle.bit_texts.proofs.Numbers.{number-window, number-take_below}
use Rattle.cabac_interval.specs.Interval.{Kind, Bin, Interval, end_bin, interval, IsSegment, IsCode, Begins, with_bin}
use Rattle.cabac_interval.specs.Laws.{LiesWithin}
use Rattle.cabac_interval.proofs.Parts.{scaled_above, scaled_below}
use Rattle.cabac_interval.proofs.Lists.{nested, same_next, Begins-code, interval-push}
use Rattle.cabac_engine.specs.Decoding.{Decoding, HasDecoded, Decodes}

pub taken : (all : List Bool) (bins : List Bin) (range offset : ℕ) (left : List Bool) → HasDecoded all bins range offset left
    → (all ≡ take (9 + (interval bins).doublings) all ++ left) × Begins all (interval bins)
taken all bins range offset left h =
    let n = 9 + (interval bins).doublings in
    let t = h.points.taken in (
      sym (take-append-drop n all) ∙ ap (λ x. take n all ++ x) (sym t.left_is),
      record {
        enough = t.enough;
        above = omega (arith, t.value_is);
        below = omega (arith, t.value_is, h.points.range_is, h.points.within);
      },
    )

-- the bits that were taken for a whole segment are a code of its bins
pub code_taken : (all : List Bool) (earlier : List Bin) (range offset : ℕ) (left : List Bool) → HasDecoded all (earlier ++ end_bin ∷ []) range offset left
    → (code : List Bool) × IsCode (earlier ++ end_bin ∷ []) code × (all ≡ code ++ left)
code_taken all earlier range offset left h =
    let bins = earlier ++ end_bin ∷ [] in
    let n = 9 + (interval bins).doublings in
    let two : (interval bins).range ≡ 2 = ap (λ i. i.range) (interval-push earlier end_bin) in
    let t = taken all bins range offset left h in
    let code : IsCode bins (take n all) = record {
      segment = h.ended (omega (arith, h.points.range_is, two));
      size = length-take-le n all t.1.enough;
      above = t.1.above;
      below = t.1.below;
    } in
    (take n all, code, t.0)

-- the bits begin with a number of an outer interval too
Begins-within : (bits : List Bool) (i j : Interval) → LiesWithin i j → Begins bits i → Begins bits j
Begins-within bits i j w b =
    let a = 9 + j.doublings in
    let n = w.more in
    let within : a + n ≤ length bits = omega (arith, b.enough, w.doublings_are) in
    let same : 9 + i.doublings ≡ a + n = omega (arith, w.doublings_are) in
    let split = ap (λ k. number (take k bits)) same ∙ number-window bits a n within in
    let rest = number-take_below n (drop a bits) (omega (arith, within, length-drop a bits)) in
    let x = number (take a bits) in
    let t = number (take n (drop a bits)) in
    record {
      enough = omega (arith, within);
      above = scaled_above j.low x (2 ^ n) t (omega (arith, b.above, split, w.above)) rest;
      below = scaled_below (j.low + j.range) x (2 ^ n) t (omega (arith, b.below, split, w.below));
    }

Begins-more : (bits rest : List Bool) (i : Interval) → Begins bits i → Begins (bits ++ rest) i
Begins-more bits rest i b =
    let n = 9 + i.doublings in
    let same : take n (bits ++ rest) ≡ take n bits = take-append-le n bits rest b.enough in
    record {
      enough = omega (arith, b.enough, length-append bits rest);
      above = subst (λ x. i.low ≤ number x) (sym same) b.above;
      below = subst (λ x. number x < i.low + i.range) (sym same) b.below;
    }

code_ahead : (bins : List Bin) (code rest : List Bool) → IsCode bins code → Begins (code ++ rest) (interval bins)
code_ahead bins code rest c = Begins-more code rest (interval bins) (Begins-code bins code c)

-- the first nine bits of a code are below 510
pub first_nine : (code rest : List Bool) (bins : List Bin) → IsCode bins code → (9 ≤ length (code ++ rest)) × (number (take 9 (code ++ rest)) < 510)
first_nine code rest bins c =
    let b = Begins-within (code ++ rest) (interval bins) (interval []) (nested [] bins (inr c.segment)) (code_ahead bins code rest c) in
    (omega (arith, b.enough), omega (arith, b.below))

-- where the bits begin with a number of the interval after one more bin, a decoder answers that bin
answer_is : (all : List Bool) (earlier : List Bin) (kind : Kind) (bit : Bool) (old : Decoding) (answer : Option Bool) (new : Decoding)
    → HasDecoded all earlier old.range old.offset old.left → Begins all (interval (with_bin earlier kind bit)) → Decodes kind old answer new
    → (answer ≡ Some bit) × HasDecoded all (with_bin earlier kind bit) new.range new.offset new.left
answer_is all earlier kind bit old None new h front decodes = absurd (decodes all earlier h bit front)
answer_is all earlier kind bit old (Some b) new h front decodes =
    let given = decodes all earlier h in
    let same : b ≡ bit = same_next all earlier kind b bit (taken all (with_bin earlier kind b) new.range new.offset new.left given).1 front in
    (ap Some same, subst (λ v. HasDecoded all (with_bin earlier kind v) new.range new.offset new.left) same given)

pub next_of_code : (all code rest : List Bool) (earlier later : List Bin) (bin : Bin) (old : Decoding) (answer : Option Bool) (new : Decoding)
    → HasDecoded all earlier old.range old.offset old.left → IsCode (earlier ++ bin ∷ later) code → all ≡ code ++ rest → Decodes bin.kind old answer new
    → (answer ≡ Some bin.bit) × HasDecoded all (earlier ++ bin ∷ []) new.range new.offset new.left
next_of_code all code rest earlier later bin old answer new h c e decodes =
    let first = earlier ++ bin ∷ [] in
    let split : earlier ++ bin ∷ later ≡ first ++ later = sym (append_assoc earlier (bin ∷ []) later) in
    let segment : IsSegment (first ++ later) = subst IsSegment split c.segment in
    let whole : Begins all (interval (first ++ later)) =
    subst (λ x. Begins x (interval (first ++ later))) (sym e) (code_ahead (first ++ later) code rest (subst (λ bins. IsCode bins code) split c)) in
    let front : Begins all (interval first) = Begins-within all (interval (first ++ later)) (interval first) (nested first later (inr segment)) whole in
    answer_is all earlier bin.kind bin.bit old answer new h front decodes
