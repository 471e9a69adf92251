-- Runs of steps, and the code of a segment.
use Rattle.std.proofs.Common.{◌≡◌, ℕ, ◌+◌, ◌^◌, ◌<◌, ◌≤◌, inr, Bool, true, List, [], ◌∷◌, ◌++◌, length, take, drop, Option, Some, None, MatchOption, sym, ap, subst, ◌∙◌, arith, append_assoc, length-append, length-drop}
use Rattle.std.proofs.lemmas.List.{append-nil, take-append-le}
use Rattle.bit_texts.specs.Bits.{number}
use Rattle.bit_texts.proofs.Numbers.{number-window, number-take_below}
use Rattle.cabac_interval.specs.Interval.{Bin, Interval, interval, IsCode, Begins, with_bin}
use Rattle.cabac_interval.specs.Laws.{LiesWithin}
use Rattle.cabac_interval.proofs.Parts.{scaled_above, scaled_below}
use Rattle.cabac_interval.proofs.Lists.{nested, same_next, Begins-code}
use Rattle.cabac_engine.specs.Bins.{Slot, at_end, Gives, Promises, Puts}
use Rattle.cabac_engine.specs.Decoding.{HasDecoded}
use Rattle.cabac_engine.proofs.Taken.{taken, code_taken}
use Rattle.cabac_contexts.specs.States.{kind_after, with_states}
use Rattle.cabac_contexts.specs.Coders.{InCoding, OutCoding, SegmentBits, HasGiven, GivesBin, HasTaken, TakesBin}
use Rattle.cabac_contexts.proofs.Steps.{with_states-push, with_states-append}

pub given : (all : List Bool) (start : ℕ → ℕ × Bool) (earlier bins : List (Slot × Bool)) (old new : InCoding)
    → HasGiven all start earlier old → Gives GivesBin old bins new → HasGiven all start (earlier ++ bins) new
given all start earlier [] old new h g = subst (HasGiven all start (earlier ++ [])) g (subst (λ bs. HasGiven all start bs old) (sym (append-nil earlier)) h)
given all start earlier (bin ∷ bins) old new h g =
    subst (λ bs. HasGiven all start bs new) (append_assoc earlier (bin ∷ []) bins)
    (given all start (earlier ++ bin ∷ []) bins g.0 new (g.1.answer all start earlier h) g.2)

pub kept : (bins : List (Slot × Bool)) (old new : InCoding) → Gives GivesBin old bins new → new.decoder.taken ++ new.decoder.left ≡ old.decoder.taken ++ old.decoder.left
kept [] old new g = ap (λ (d : InCoding). d.decoder.taken ++ d.decoder.left) (sym g)
kept (bin ∷ bins) old new g = kept bins g.0 new g.2 ∙ g.1.kept

pub taken_bins : (before : List Bool) (start : ℕ → ℕ × Bool) (earlier bins : List (Slot × Bool)) (old new : OutCoding)
    → HasTaken before start earlier old → Puts TakesBin old bins new → HasTaken before start (earlier ++ bins) new
taken_bins before start earlier [] old new h g = subst (HasTaken before start (earlier ++ [])) g (subst (λ bs. HasTaken before start bs old) (sym (append-nil earlier)) h)
taken_bins before start earlier (bin ∷ bins) old new h g =
    subst (λ bs. HasTaken before start bs new) (append_assoc earlier (bin ∷ []) bins)
    (taken_bins before start (earlier ++ bin ∷ []) bins g.0 new (g.1 before start earlier h) g.2)

-- ---- the bins of a code that stands ahead

-- the bits begin with a number of an outer interval too
Begins-within : (bits : List Bool) (i j : Interval) → LiesWithin i j → Begins bits i → Begins bits j
Begins-within bits i j w b =
    let a = 9 + j.doublings in
    let n = w.more in
    let within : a + n ≤ length bits = omega (arith, b.enough, w.doublings_are) in
    let same : 9 + i.doublings ≡ a + n = omega (arith, w.doublings_are) in
    let split = ap (λ k. number (take k bits)) same ∙ number-window bits a n within in
    let rest = number-take_below n (drop a bits) (omega (arith, within, length-drop a bits)) in
    let x = number (take a bits) in
    let t = number (take n (drop a bits)) in
    record {
      enough = omega (arith, within);
      above = scaled_above j.low x (2 ^ n) t (omega (arith, b.above, split, w.above)) rest;
      below = scaled_below (j.low + j.range) x (2 ^ n) t (omega (arith, b.below, split, w.below));
    }

code_ahead : (bins : List Bin) (code rest : List Bool) → IsCode bins code → Begins (code ++ rest) (interval bins)
code_ahead bins code rest c =
    let b = Begins-code bins code c in
    let n = 9 + (interval bins).doublings in
    let same : take n (code ++ rest) ≡ take n code = take-append-le n code rest b.enough in
    record {
      enough = omega (arith, b.enough, length-append code rest);
      above = subst (λ x. (interval bins).low ≤ number x) (sym same) b.above;
      below = subst (λ x. number x < (interval bins).low + (interval bins).range) (sym same) b.below;
    }

-- bits that are a code of a segment and more begin with a number of the interval of its first bins
front : (all code rest : List Bool) (start : ℕ → ℕ × Bool) (earlier later : List (Slot × Bool)) (bin : Slot × Bool)
    → SegmentBits start (earlier ++ bin ∷ later) code → all ≡ code ++ rest
    → Begins all (interval (with_bin (with_states start [] earlier) (kind_after start earlier bin.0) bin.1))
front all code rest start earlier later bin c e =
    let first = with_states start [] (earlier ++ bin ∷ []) in
    let more = with_states start (earlier ++ bin ∷ []) later in
    let split : with_states start [] (earlier ++ bin ∷ later) ≡ first ++ more =
    ap (with_states start []) (sym (append_assoc earlier (bin ∷ []) later)) ∙ with_states-append start [] (earlier ++ bin ∷ []) later in
    let whole : IsCode (first ++ more) code = subst (λ bins. IsCode bins code) split c in
    let begins = Begins-within (code ++ rest) (interval (first ++ more)) (interval first) (nested first more (inr whole.segment)) (code_ahead (first ++ more) code rest whole) in
    subst (λ bins. Begins all (interval bins)) (with_states-push start earlier bin.0 bin.1) (subst (λ bits. Begins bits (interval first)) (sym e) begins)

-- the answer to a bin with which the bits begin with a number of the interval is its bit
next_bin : (all : List Bool) (start : ℕ → ℕ × Bool) (earlier : List (Slot × Bool)) (slot : Slot) (bit : Bool) (t : InCoding) (answer : Option Bool)
    → MatchOption answer ((b : Bool) → Begins all (interval (with_bin (with_states start [] earlier) (kind_after start earlier slot) b)) → ⊥) (λ b. HasGiven all start (earlier ++ (slot, b) ∷ []) t)
    → Begins all (interval (with_bin (with_states start [] earlier) (kind_after start earlier slot) bit))
    → (answer ≡ Some bit) × HasGiven all start (earlier ++ (slot, bit) ∷ []) t
next_bin all start earlier slot bit t None none begins = absurd (none bit begins)
next_bin all start earlier slot bit t (Some b) given begins =
    let here : Begins all (interval (with_bin (with_states start [] earlier) (kind_after start earlier slot) b)) =
    subst (λ bs. Begins all (interval bs)) (with_states-push start earlier slot b) (taken all _ _ _ _ given.decoded).1 in
    let same : b ≡ bit = same_next all (with_states start [] earlier) (kind_after start earlier slot) b bit here begins in
    (ap Some same, subst (λ v. HasGiven all start (earlier ++ (slot, v) ∷ []) t) same given)

pub promised : (all code rest : List Bool) (start : ℕ → ℕ × Bool) (earlier bins : List (Slot × Bool)) (d : InCoding)
    → HasGiven all start earlier d → SegmentBits start (earlier ++ bins) code → all ≡ code ++ rest → Promises GivesBin d bins
promised all code rest start earlier [] d h c e = tt
promised all code rest start earlier (bin ∷ bins) d h c e = λ answer t step.
    let next = next_bin all start earlier bin.0 bin.1 t answer (step.answer all start earlier h) (front all code rest start earlier bins bin c e) in
    (next.0, promised all code rest start (earlier ++ bin ∷ []) bins t next.1 (subst (λ bs. SegmentBits start bs code) (sym (append_assoc earlier (bin ∷ []) bins)) c) e)

pub ended : (all : List Bool) (start : ℕ → ℕ × Bool) (earlier : List (Slot × Bool)) (d : InCoding) → HasGiven all start (earlier ++ (at_end, true) ∷ []) d
    → (code : List Bool) × SegmentBits start (earlier ++ (at_end, true) ∷ []) code × (all ≡ code ++ d.decoder.left)
ended all start earlier d h =
    let last = with_states-push start earlier at_end true in
    let t = code_taken all (with_states start [] earlier) d.decoder.range d.decoder.offset d.decoder.left (subst (λ bs. HasDecoded all bs d.decoder.range d.decoder.offset d.decoder.left) last h.decoded) in
    (t.0, subst (λ bs. IsCode bs t.0) (sym last) t.1, t.2)
