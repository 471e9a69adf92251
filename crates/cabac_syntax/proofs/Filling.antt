-- Bits up to the byte boundary, and zero words.
use Rattle.std.proofs.Common.{◌≡◌, ◌≢◌, ℕ, zero, suc, ◌+◌, ◌-◌, ◌*◌, ◌%◌, ◌^◌, ◌<◌, Bool, true, false, List, [], ◌∷◌, ◌++◌, length, replicate, Some, None, refl, sym, ap, ◌∙◌, length-append, arith}
use Rattle.std.proofs.lemmas.List.{append_cancel_left, replicate-append-replicate}
use Rattle.bit_texts.specs.Bits.{binary}
use Rattle.bit_texts.specs.Cursor.{cursor}
use Rattle.bit_texts.proofs.Numbers.{length-binary, binary-zero, same_from_binary}
use Rattle.bit_texts.proofs.Reading.{same_parts}
use Rattle.pcm_samples.specs.Alignment.{alignment, alignment_at}
use Rattle.pcm_samples.proofs.AlignmentLaws.{alignment_inverts}
use Rattle.cabac_syntax.specs.SliceData.{ones}
use Rattle.cabac_syntax.specs.Standing.{IsTail, AreWords}

-- ---- one bits

-- one bit before the boundary there is one bit less to it
ones_more : (taken left new rest : List Bool) (b : Bool) → length taken % 8 ≢ 0 → left ≡ b ∷ rest → new ++ rest ≡ taken ++ left → ones (length taken) ≡ true ∷ ones (length new)
ones_more taken left new rest b h e kept =
    let size : length new ≡ length taken + 1 = omega (arith, sym (length-append new rest) ∙ ap length kept ∙ length-append taken left, ap length e) in
    let gap : (8 - length taken % 8) % 8 ≡ suc ((8 - length new % 8) % 8) = omega (arith, h, size) in
    rw gap refl

-- what one bits and others stand behind the bits taken
abbrev pub Filled : List Bool → List Bool → List Bool → Type 0
Filled taken left rest = left ≡ ones (length taken) ++ rest

pub filled_on : (taken left new rest behind : List Bool) → length taken % 8 ≢ 0 → left ≡ true ∷ rest → new ++ rest ≡ taken ++ left → Filled taken left behind → Filled new rest behind
filled_on taken left new rest behind h e kept f =
    let both : true ∷ rest ≡ true ∷ (ones (length new) ++ behind) = sym e ∙ f ∙ ap (λ (l : List Bool). l ++ behind) (ones_more taken left new rest true h e kept) in
    cc

pub filled_back : (taken left new rest behind : List Bool) → length taken % 8 ≢ 0 → left ≡ true ∷ rest → new ++ rest ≡ taken ++ left → Filled new rest behind → Filled taken left behind
filled_back taken left new rest behind h e kept f =
    e ∙ ap (λ (l : List Bool). true ∷ l) f ∙ sym (ap (λ (l : List Bool). l ++ behind) (ones_more taken left new rest true h e kept))

pub not_filled : (taken left new rest behind : List Bool) → length taken % 8 ≢ 0 → left ≡ false ∷ rest → new ++ rest ≡ taken ++ left → Filled taken left behind → ⊥
not_filled taken left new rest behind h e kept f =
    let both : false ∷ rest ≡ true ∷ (ones (length new) ++ behind) = sym e ∙ f ∙ ap (λ (l : List Bool). l ++ behind) (ones_more taken left new rest false h e kept) in
    absurd cc

-- ---- zero words

-- one zero word more
one_word : (words : ℕ) → replicate (16 * suc words) false ≡ false ∷ (binary 15 0 ++ replicate (16 * words) false)
one_word words =
    let size : 16 * suc words ≡ suc (15 + 16 * words) = omega arith in
    rw size (ap (λ (l : List Bool). false ∷ l) (sym (ap (λ (l : List Bool). l ++ replicate (16 * words) false) (binary-zero 15) ∙ replicate-append-replicate 15 (16 * words) false)))

-- words, of which the first bit is there
first_word : (bits rest : List Bool) (b : Bool) → bits ≡ b ∷ rest → AreWords bits → (words : ℕ) × (b ≡ false) × (rest ≡ binary 15 0 ++ replicate (16 * words) false)
first_word bits rest b e (zero, w) = absurd (let clash : b ∷ rest ≡ [] = sym e ∙ w in cc)
first_word bits rest b e (suc words, w) =
    let both : b ∷ rest ≡ false ∷ (binary 15 0 ++ replicate (16 * words) false) = sym e ∙ w ∙ one_word words in
    (words, cc, cc)

pub words_one : (bits rest : List Bool) → bits ≡ true ∷ rest → AreWords bits → ⊥
words_one bits rest e w = let f = first_word bits rest true e w in absurd (cc (f.1))

pub words_short : (bits rest : List Bool) → bits ≡ false ∷ rest → ((v : ℕ) (more : List Bool) → v < 2 ^ 15 → rest ≢ binary 15 v ++ more) → AreWords bits → ⊥
words_short bits rest e none w = let f = first_word bits rest false e w in none 0 (replicate (16 * f.0) false) (omega arith) f.2

pub words_less : (bits rest left : List Bool) (v : ℕ) → bits ≡ false ∷ rest → v < 2 ^ 15 → rest ≡ binary 15 v ++ left → AreWords bits → (v ≡ 0) × AreWords left
words_less bits rest left v e small h w =
    let f = first_word bits rest false e w in
    let parts = same_parts (binary 15 v) (binary 15 0) left (replicate (16 * f.0) false) (length-binary 15 v ∙ sym (length-binary 15 0)) (sym h ∙ f.2) in
    (same_from_binary 15 v 0 small (omega arith) parts.0, (f.0, parts.1))

pub words_more : (bits rest left : List Bool) (v : ℕ) → bits ≡ false ∷ rest → rest ≡ binary 15 v ++ left → v ≡ 0 → AreWords left → AreWords bits
words_more bits rest left v e h none (words, w) =
    (suc words, e ∙ ap (λ (l : List Bool). false ∷ l) (h ∙ ap (λ (n : ℕ). binary 15 n ++ left) none ∙ ap (λ (l : List Bool). binary 15 0 ++ l) w) ∙ sym (one_word words))

-- ---- the tail

pub tail_none : (pos : ℕ) (left : List Bool) → alignment_at (cursor pos left) ≡ None → IsTail pos left → ⊥
tail_none pos left none (words, e) =
    let found = alignment_inverts.again pos tt (replicate (16 * words) false) tt in
    let clash : None ≡ Some (tt, cursor (pos + length (alignment pos)) (replicate (16 * words) false)) = sym none ∙ ap (λ (l : List Bool). alignment_at (cursor pos l)) e ∙ found in
    absurd cc

pub tail_in : (pos place : ℕ) (left rest : List Bool) → alignment_at (cursor pos left) ≡ Some (tt, cursor place rest) → AreWords rest → IsTail pos left
tail_in pos place left rest found (words, e) =
    (words, (alignment_inverts.takes (cursor pos left) tt (cursor place rest) found).1.parts ∙ ap (λ (l : List Bool). alignment pos ++ l) e)

pub tail_of : (pos place : ℕ) (left rest : List Bool) → alignment_at (cursor pos left) ≡ Some (tt, cursor place rest) → IsTail pos left → AreWords rest
tail_of pos place left rest found (words, e) =
    (words, append_cancel_left (alignment pos) rest (replicate (16 * words) false) (sym (alignment_inverts.takes (cursor pos left) tt (cursor place rest) found).1.parts ∙ e))
