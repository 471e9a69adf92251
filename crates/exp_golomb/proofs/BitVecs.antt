-- Bits that are collected into bytes.
use Rattle.std.proofs.Common.{◌≡◌, ℕ, zero, ◌+◌, suc, true, false, refl, ◌-◌, ◌/◌, ◌*◌, ◌%◌, ◌^◌, ◌<◌, ◌≤◌, Bool, eqb, List, [], ◌∷◌, ◌++◌, length, take, sym, ap, ◌∙◌, arith, rules, tests, Fits, w64, length-append, append_assoc}
use Rattle.std.specs.Prelude.{IsTrue, OnOk, Result, ◌↔◌}
use Rattle.std.specs.Int.{byte_at, bytes_high_first}
use mir.Val.{bool_byte}
use Rattle.bit_texts.specs.Texts.{Appended}
use Rattle.bit_texts.proofs.Writing.{Appended-then, Appended-same}
use Rattle.std.proofs.lemmas.List.{append-nil}
use Rattle.std.proofs.Math.Nat.{mul-le-mul_right, div-div-eq-div-mul, div-lt_iff_lt-mul}
use Rattle.std.proofs.lemmas.Nat.{pow_pos, pow-add, shr_high, shl-shr, shl_whole, div-add-mod'}
use Rattle.bit_texts.specs.Bits.{binary, bits_of}
use Rattle.bit_texts.proofs.Numbers.{length-binary, binary-none, binary-add, binary-high, pow_most, pow_suc}
use Rattle.bit_texts.proofs.Bytes.{bits_of-cons, bits_of-append, length-bits_of}

abbrev collected : List ℕ → ℕ → ℕ → List Bool
collected bytes count last = bits_of bytes ++ binary count last

length-collected : (bytes : List ℕ) (count last : ℕ) (bits : List Bool) → collected bytes count last ≡ bits → length bits ≡ 8 * length bytes + count
length-collected bytes count last bits h = sym (ap length h) ∙ length-append (bits_of bytes) (binary count last) ∙ omega (arith, length-bits_of bytes, length-binary count last)

-- ---- the bytes of a number

pow_256 : (n : ℕ) → 256 ^ n ≡ 2 ^ (8 * n)
pow_256 zero = refl
pow_256 (suc n) =
    let more : 2 ^ (8 * suc n) ≡ 2 ^ (8 + 8 * n) = ap (λ k. 2 ^ k) (omega arith) in
    omega (arith, more, pow-add 2 8 (8 * n), pow_256 n)

low_byte : (value : ℕ) → binary 8 (value % 256) ≡ binary 8 value
low_byte value = sym (binary-high 8 (value / 256) (value % 256)) ∙ ap (binary 8) (div-add-mod' value 256)

bits_of_byte : (n value : ℕ) → binary 8 (byte_at n value) ≡ binary 8 (value / 2 ^ (8 * n))
bits_of_byte zero value = let same : value / 2 ^ (8 * 0) ≡ value = omega arith in low_byte value ∙ ap (binary 8) (sym same)
bits_of_byte (suc n) value = low_byte (value / 256 ^ suc n) ∙ ap (λ p. binary 8 (value / p)) (pow_256 (suc n))

-- the first k of the n lowest ones
pub bits_of_front : (k n value : ℕ) → k ≤ n → bits_of (take k (bytes_high_first n value)) ≡ binary (8 * k) (value / 2 ^ (8 * (n - k)))
bits_of_front zero n value h = sym (binary-none 0 (value / 2 ^ (8 * (n - 0))) (omega arith))
bits_of_front (suc k) zero value h = absurd (omega arith)
bits_of_front (suc k) (suc n) value h =
    let rest : ℕ = value / 2 ^ (8 * (n - k)) in
    let same : n - k ≡ suc n - suc k = omega arith in
    let size : 8 + 8 * k ≡ 8 * suc k = omega arith in
    let place : 2 ^ (8 * n) ≡ 2 ^ (8 * (n - k)) * 2 ^ (8 * k) = ap (λ j. 2 ^ j) (omega arith) ∙ pow-add 2 (8 * (n - k)) (8 * k) in
    let high : value / 2 ^ (8 * n) ≡ rest / 2 ^ (8 * k) = ap (λ p. value / p) place ∙ sym (div-div-eq-div-mul value (2 ^ (8 * (n - k))) (2 ^ (8 * k))) in
    bits_of-cons (byte_at n value) (take k (bytes_high_first n value)) ∙ ap (λ (t : List Bool). t ++ bits_of (take k (bytes_high_first n value))) (bits_of_byte n value ∙ ap (binary 8) high)
    ∙ ap (λ (t : List Bool). binary 8 (rest / 2 ^ (8 * k)) ++ t) (bits_of_front k n value (omega arith)) ∙ sym (binary-add 8 (8 * k) rest)
    ∙ ap (λ m. binary m rest) size ∙ ap (λ d. binary (8 * suc k) (value / 2 ^ (8 * d))) same

bits_of_word : (value : ℕ) → bits_of (bytes_high_first 8 value) ≡ binary 64 value
bits_of_word value =
    let whole : value / 2 ^ (8 * (8 - 8)) ≡ value = omega arith in
    bits_of_front 8 8 value (omega arith) ∙ ap (binary 64) whole

-- ---- the end

pub whole_bytes : (bytes : List ℕ) (count last : ℕ) (bits : List Bool) → collected bytes count last ≡ bits → count ≤ 0 → bits_of bytes ≡ bits
unfolding binary
whole_bytes bytes count last bits h few =
    let none : count ≡ 0 = omega arith in
    sym (append-nil (bits_of bytes)) ∙ (rw none at h)

-- the whole bytes that are gathered
pub last_bytes : (bytes : List ℕ) (count last : ℕ) (bits : List Bool) → collected bytes count last ≡ bits → count < 64 → last < 2 ^ count → length bits % 8 ≡ 0
    → bits_of (bytes ++ take (count / 8) (bytes_high_first 8 (last * 2 ^ (64 - count) % 2 ^ 64))) ≡ bits
last_bytes bytes count last bits h few fits whole =
    let k : ℕ = count / 8 in
    let size : 8 * k ≡ count = omega (arith, length-collected bytes count last bits h) in
    let place : 8 * (8 - k) ≡ 64 - count = omega (arith, size) in
    let top : last * 2 ^ (64 - count) % 2 ^ 64 ≡ last * 2 ^ (64 - count) = shl_whole last count (64 - count) 64 fits (omega arith) in
    let text : bits_of (take k (bytes_high_first 8 (last * 2 ^ (64 - count)))) ≡ binary count last =
    bits_of_front k 8 (last * 2 ^ (64 - count)) (omega arith) ∙ rw (size, place, shl-shr last (64 - count)) refl in
    bits_of-append bytes (take k (bytes_high_first 8 (last * 2 ^ (64 - count) % 2 ^ 64))) ∙ rw (top, text) h

pub aligned_by_count : (bytes : List ℕ) (count last : ℕ) (bits : List Bool) → collected bytes count last ≡ bits → IsTrue (eqb (count % 8) 0) ↔ (length bits % 8 ≡ 0)
aligned_by_count bytes count last bits h = let same : length bits % 8 ≡ count % 8 = omega (arith, length-collected bytes count last bits h) in rw same (search (rules, tests))

-- ---- n bits behind those that are gathered

pub fits : (count last n value : ℕ) → last < 2 ^ count → value < 2 ^ n → last * 2 ^ n + value < 2 ^ (count + n)
fits count last n value h k =
    let product : suc last * 2 ^ n ≤ 2 ^ count * 2 ^ n = mul-le-mul_right (2 ^ n) (omega arith) in
    omega (arith, pow-add 2 count n, product, k)

in_word : (count last n value : ℕ) → last < 2 ^ count → value < 2 ^ n → count + n ≤ 64 → last * 2 ^ n + value < 2 ^ 64
in_word count last n value h k room = omega (arith, fits count last n value h k, pow_most (count + n) 64 room)

pub same_word : (count last n value : ℕ) → last < 2 ^ count → value < 2 ^ n → count + n ≤ 64 → last * 2 ^ n % 18446744073709551616 + value ≡ last * 2 ^ n + value
same_word count last n value h k room = omega (arith, in_word count last n value h k room)

pub word_fits : (count last n value : ℕ) → last < 2 ^ count → value < 2 ^ n → count + n ≤ 64 → Fits w64 (last * 2 ^ n % 18446744073709551616 + value)
word_fits count last n value h k room = record { fits = omega (arith, in_word count last n value h k room, same_word count last n value h k room) }

put_few : (bytes : List ℕ) (count last n value : ℕ) (bits : List Bool) → collected bytes count last ≡ bits → value < 2 ^ n → collected bytes (count + n) (last * 2 ^ n + value) ≡ bits ++ binary n value
put_few bytes count last n value bits h k =
    let text : binary (count + n) (last * 2 ^ n + value) ≡ binary count last ++ binary n value =
    binary-add count n (last * 2 ^ n + value) ∙ rw (shr_high last n value k, binary-high n last value) refl in
    rw text (sym (append_assoc (bits_of bytes) (binary count last) (binary n value)) ∙ ap (λ (t : List Bool). t ++ binary n value) h)

pub gathered : (bytes : List ℕ) (count last n value : ℕ) (bits : List Bool) → collected bytes count last ≡ bits → last < 2 ^ count → value < 2 ^ n → count + n ≤ 64
    → Appended bits (collected bytes (count + n) (last * 2 ^ n % 18446744073709551616 + value)) (binary n value)
gathered bytes count last n value bits h low k room = record { is = rw (same_word count last n value low k room) (put_few bytes count last n value bits h k) }

-- ---- n bits of which some fill a word, and the others are over

-- those that fill it
high_fits : (count over n value : ℕ) → over ≡ count + n - 64 → 64 ≤ count + n → count < 64 → value < 2 ^ n → value / 2 ^ over < 2 ^ (64 - count)
high_fits count over n value e full few k =
    let all : 2 ^ n ≡ 2 ^ (64 - count) * 2 ^ over = ap (λ j. 2 ^ j) (omega arith) ∙ pow-add 2 (64 - count) over in
    (div-lt_iff_lt-mul (pow_pos over)).1 (omega (arith, k, all))

word_is : (count last high : ℕ) → count < 64 → last < 2 ^ count → high < 2 ^ (64 - count)
    → last * 2 ^ (63 - count) % 18446744073709551616 * 2 % 18446744073709551616 + high ≡ last * 2 ^ (64 - count) + high
word_is count last high few h k =
    let double : 2 ^ (64 - count) ≡ 2 * 2 ^ (63 - count) = ap (λ j. 2 ^ j) (omega arith) ∙ pow_suc (63 - count) in
    let product : last * 2 ^ (64 - count) ≡ last * 2 ^ (63 - count) * 2 = rw double (omega arith) in
    omega (arith, product, in_word count last (64 - count) high h k (omega arith))

pub full_word_fits : (count last over n value : ℕ) → over ≡ count + n - 64 → 64 ≤ count + n → count < 64 → last < 2 ^ count → value < 2 ^ n
    → Fits w64 (last * 2 ^ (63 - count) % 18446744073709551616 * 2 % 18446744073709551616 + value / 2 ^ over)
full_word_fits count last over n value e full few h k =
    let high = high_fits count over n value e full few k in
    record { fits = omega (arith, word_is count last (value / 2 ^ over) few h high, in_word count last (64 - count) (value / 2 ^ over) h high (omega arith)) }

filled : (bytes : List ℕ) (count last over n value : ℕ) (bits : List Bool) → collected bytes count last ≡ bits → over ≡ count + n - 64 → 64 ≤ count + n → count < 64 → last < 2 ^ count → value < 2 ^ n
    → Appended bits (collected (bytes ++ bytes_high_first 8 (last * 2 ^ (63 - count) % 18446744073709551616 * 2 % 18446744073709551616 + value / 2 ^ over)) 0 0) (binary (64 - count) (value / 2 ^ over))
unfolding binary
filled bytes count last over n value bits h e full few low k =
    let high = high_fits count over n value e full few k in
    let size : count + (64 - count) ≡ 64 = omega arith in
    let text : bits_of (bytes ++ bytes_high_first 8 (last * 2 ^ (64 - count) + value / 2 ^ over)) ≡ collected bytes (count + (64 - count)) (last * 2 ^ (64 - count) + value / 2 ^ over) =
    bits_of-append bytes (bytes_high_first 8 (last * 2 ^ (64 - count) + value / 2 ^ over)) ∙ rw (bits_of_word (last * 2 ^ (64 - count) + value / 2 ^ over), size) refl in
    record { is = rw (word_is count last (value / 2 ^ over) few low high) (append-nil (bits_of (bytes ++ bytes_high_first 8 (last * 2 ^ (64 - count) + value / 2 ^ over))) ∙ text ∙ put_few bytes count last (64 - count) (value / 2 ^ over) bits h high) }

-- both are the bits of the value
both_parts : (count over n value : ℕ) → over ≡ count + n - 64 → 64 ≤ count + n → count < 64 → binary n value ≡ binary (64 - count) (value / 2 ^ over) ++ binary over value
both_parts count over n value e full few = ap (λ k. binary k value) (omega arith) ∙ binary-add (64 - count) over value

pub then_over : (bytes more : List ℕ) (count last over n value low word : ℕ) (bits : List Bool) → collected bytes count last ≡ bits → over ≡ count + n - 64 → 64 ≤ count + n → count < 64 → last < 2 ^ count → value < 2 ^ n
    → word ≡ last * 2 ^ (63 - count) % 18446744073709551616 * 2 % 18446744073709551616 + value / 2 ^ over → more ≡ bytes ++ bytes_high_first 8 word → low ≡ value % 2 ^ over
    → Appended bits (collected more over low) (binary n value)
unfolding binary
then_over bytes more count last over n value low word bits h e full few k fit w m l =
    let first = filled bytes count last over n value bits h e full few k fit in
    let rest : binary over low ≡ binary over value = ap (binary over) l ∙ sym (binary-high over (value / 2 ^ over) (value % 2 ^ over)) ∙ ap (binary over) (div-add-mod' value (2 ^ over)) in
    let second : Appended (collected more 0 0) (collected more over low) (binary over value) = record { is = rw (append-nil (bits_of more), rest) refl } in
    Appended-same bits _ _ _ (sym (both_parts count over n value e full few)) (Appended-then (rw (m, w) first) second)

-- ---- one bit

pub bit_fits : (b : Bool) (byte : ℕ) → byte ≡ bool_byte b → byte < 2 ^ 1
bit_fits true byte e = omega (arith, e)
bit_fits false byte e = omega (arith, e)

pub one_bit : {T E : Type 0} (old new : List Bool) (b : Bool) (byte : ℕ) (r : Result T E) → byte ≡ bool_byte b → OnOk r (Appended old new (binary 1 byte)) → OnOk r (Appended old new (b ∷ []))
unfolding binary
one_bit old new b byte r e h = let text : binary 1 byte ≡ b ∷ [] = ap (binary 1) e ∙ lowest b in rw (← text) h
  where
    lowest : (b : Bool) → binary 1 (bool_byte b) ≡ b ∷ []
    lowest true = refl
    lowest false = refl
