-- The samples of I_PCM macroblocks, and bits up to the byte boundary.
use Rattle.std.proofs.Common.{◌≡◌, ℕ, ◌+◌, ◌-◌, ◌*◌, ◌%◌, ◌≤◌, Bool, false, List, [], ◌∷◌, ◌++◌, length, replicate, Option, Some, None, MatchOption, OnSome, refl, sym, ap, ◌∙◌, append_assoc, length-append, arith}
use Rattle.std.specs.Prelude.{All}
use Rattle.std.specs.Option.{option_map}
use Rattle.std.proofs.lemmas.List.{append_cancel_left, length-replicate}
use Rattle.std.proofs.lemmas.List.Elements.{All-head, All-tail}
use Rattle.bit_texts.specs.Bits.{binary, bits_of}
use Rattle.bit_texts.specs.Cursor.{cursor}
use Rattle.bit_texts.specs.Texts.{Reads}
use Rattle.bit_texts.proofs.Bytes.{bits_of-cons, length-bits_of}
use Rattle.bit_texts.proofs.Numbers.{length-binary, same_from_binary}
use Rattle.bit_texts.proofs.Reading.{same_parts}
use Rattle.pcm_samples.specs.Alignment.{alignment, alignment_at}
use Rattle.pcm_samples.proofs.AlignmentLaws.{alignment_inverts}
use Rattle.pcm_samples.specs.Samples.{AreSamples}
use Rattle.cabac_syntax.specs.Standing.{HasSamples}

-- no bits begin with those of two lists of samples of one length
same_bytes : (xs ys : List ℕ) (r s : List Bool) → length xs ≡ length ys → All (λ sample. sample ≤ 255) xs → All (λ sample. sample ≤ 255) ys → bits_of xs ++ r ≡ bits_of ys ++ s → (xs ≡ ys) × (r ≡ s)
same_bytes [] [] r s size p q e = (refl, e)
same_bytes [] (y ∷ ys) r s size p q e = absurd (omega (arith, size))
same_bytes (x ∷ xs) [] r s size p q e = absurd (omega (arith, size))
same_bytes (x ∷ xs) (y ∷ ys) r s size p q e =
    let one : binary 8 x ++ (bits_of xs ++ r) ≡ binary 8 y ++ (bits_of ys ++ s) =
    sym (ap (λ (t : List Bool). t ++ r) (bits_of-cons x xs) ∙ append_assoc (binary 8 x) (bits_of xs) r) ∙ e ∙ ap (λ (t : List Bool). t ++ s) (bits_of-cons y ys) ∙ append_assoc (binary 8 y) (bits_of ys) s in
    let parts = same_parts (binary 8 x) (binary 8 y) (bits_of xs ++ r) (bits_of ys ++ s) (length-binary 8 x ∙ sym (length-binary 8 y)) one in
    let low : x ≤ 255 = All-head (λ sample. sample ≤ 255) x xs p in
    let low' : y ≤ 255 = All-head (λ sample. sample ≤ 255) y ys q in
    let first : x ≡ y = same_from_binary 8 x y (omega arith) (omega arith) parts.0 in
    let others = same_bytes xs ys r s (omega (arith, size)) (All-tail (λ sample. sample ≤ 255) x xs p) (All-tail (λ sample. sample ≤ 255) y ys q) parts.1 in
    (ap (λ (n : ℕ). n ∷ xs) first ∙ ap (λ (l : List ℕ). y ∷ l) others.0, others.1)

pub same_samples : (pos : ℕ) (xs ys : List ℕ) (r s bits : List Bool) → AreSamples xs → AreSamples ys → HasSamples pos xs r bits → HasSamples pos ys s bits → (xs ≡ ys) × (r ≡ s)
same_samples pos xs ys r s bits p q e h =
    same_bytes xs ys r s (p.count ∙ sym q.count) p.bytes q.bytes (append_cancel_left (alignment pos) (bits_of xs ++ r) (bits_of ys ++ s) (sym e ∙ h))

-- from a byte boundary on, the boundary is as far
pub boundary_is : (before code taken : List Bool) → length before % 8 ≡ 0 → taken ≡ before ++ code → alignment (length code) ≡ alignment (length taken)
boundary_is before code taken aligned e =
    let size : length taken ≡ length before + length code = ap length e ∙ length-append before code in
    let same : (8 - length code % 8) % 8 ≡ (8 - length taken % 8) % 8 = omega (arith, aligned, size) in
    ap (λ (n : ℕ). replicate n false) same

-- ---- reading

pub samples_cut : (pos : ℕ) (left : List Bool) → alignment_at (cursor pos left) ≡ None → (xs : List ℕ) (rest : List Bool) → AreSamples xs → HasSamples pos xs rest left → ⊥
samples_cut pos left none xs rest are has =
    let found = alignment_inverts.again pos tt (bits_of xs ++ rest) tt in
    let clash : None ≡ Some (tt, cursor (pos + length (alignment pos)) (bits_of xs ++ rest)) = sym none ∙ ap (λ (l : List Bool). alignment_at (cursor pos l)) has ∙ found in
    absurd cc

pub samples_read : (pos place : ℕ) (left mid new : List Bool) (samples : List ℕ) (result : Option (Unit {0})) → alignment_at (cursor pos left) ≡ Some (tt, cursor place mid) → Reads AreSamples bits_of mid (option_map (λ _. samples) result) new
    → MatchOption result ((xs : List ℕ) (rest : List Bool) → AreSamples xs → HasSamples pos xs rest left → ⊥) (λ _. AreSamples samples × HasSamples pos samples new left)
samples_read pos place left mid new samples None found read = λ xs rest are has.
    read xs rest are (append_cancel_left (alignment pos) mid (bits_of xs ++ rest) (sym (alignment_inverts.takes (cursor pos left) tt (cursor place mid) found).1.parts ∙ has))
samples_read pos place left mid new samples (Some x) found read =
    (read.0, (alignment_inverts.takes (cursor pos left) tt (cursor place mid) found).1.parts ∙ ap (λ (l : List Bool). alignment pos ++ l) read.1)

-- samples end at a byte boundary
pub samples_aligned : (pos : ℕ) (taken left mid new_taken new : List Bool) (samples : List ℕ) (result : Option (Unit {0})) → alignment_at (cursor pos left) ≡ Some (tt, cursor (length taken) mid) → Reads AreSamples bits_of mid (option_map (λ _. samples) result) new
    → new_taken ++ new ≡ taken ++ mid → OnSome result (length new_taken % 8 ≡ 0)
samples_aligned pos taken left mid new_taken new samples None found read kept = tt
samples_aligned pos taken left mid new_taken new samples (Some x) found read kept =
    let place : length taken ≡ pos + (8 - pos % 8) % 8 =
    (alignment_inverts.takes (cursor pos left) tt (cursor (length taken) mid) found).1.count ∙ ap (λ (n : ℕ). pos + n) (length-replicate ((8 - pos % 8) % 8) false) in
    let sizes : length new_taken + length new ≡ length taken + length mid = sym (length-append new_taken new) ∙ ap length kept ∙ length-append taken mid in
    let behind : length mid ≡ 8 * length samples + length new = ap length read.1 ∙ length-append (bits_of samples) new ∙ ap (λ (n : ℕ). n + length new) (length-bits_of samples) in
    omega (arith, place, sizes, behind, read.0.count)
