-- Places in the bits of bytes.
use Rattle.std.proofs.Common.{rules, tests, ◌≡◌, ℕ, zero, suc, ◌+◌, ◌-◌, ◌*◌, ◌/◌, ◌%◌, ◌^◌, ◌<◌, ◌≤◌, eqb, bit_and, Bool, List, [], ◌∷◌, length, take, drop, get_or, refl, sym, ap, ◌∙◌, arith, length-drop}
use Rattle.std.specs.Prelude.{IsTrue, ◌↔◌}
use Rattle.std.proofs.lemmas.Nat.Bits.{shr_and_one}
use Rattle.std.proofs.lemmas.List.{drop-drop, take_rest, length-take-le, get_or-drop}
use Rattle.bit_texts.specs.Bits.{number, first, last_bit, bits_of}
use Rattle.exp_golomb.specs.Bitstream.{Bitstream, pointed}
use Rattle.bit_texts.proofs.LastBit.{last_bit-take}
use Rattle.bit_texts.proofs.Numbers.{number-nil, pow_most}
use Rattle.bit_texts.proofs.Bytes.{length-bits_of, next_bit, drop-bytes}
use Rattle.bit_texts.proofs.Windows.{number-bytes, number-window_behind, number-first_below}

-- ---- a place in bytes: some whole bytes, and then the used bits of the next one

-- the bits there are those of the bytes that are left
pub left_at : (place used : ℕ) (bytes : List ℕ) → drop (8 * place + used) (bits_of bytes) ≡ drop used (bits_of (drop place bytes))
left_at place used bytes = sym (drop-drop used (8 * place) (bits_of bytes)) ∙ ap (drop used) (drop-bytes place bytes)

pub left_behind : (place used : ℕ) (bytes : List ℕ) (now : Bitstream) → pointed (8 * place + used) (bits_of bytes) ≡ now → drop used (bits_of (take (length bytes - place) (drop place bytes))) ≡ now.left
left_behind place used bytes now view = ap (λ t. drop used (bits_of t)) (take_rest bytes place) ∙ sym (left_at place used bytes) ∙ ap (λ (s : Bitstream). s.left) view

pub length-left : (n : ℕ) (bytes : List ℕ) (now : Bitstream) → pointed n (bits_of bytes) ≡ now → length now.left ≡ 8 * length bytes - n
length-left n bytes now view = sym (ap (λ (s : Bitstream). length s.left) view) ∙ length-drop n (bits_of bytes) ∙ ap (λ k. k - n) (length-bits_of bytes)

pub length-taken : (n : ℕ) (bytes : List ℕ) (now : Bitstream) → pointed n (bits_of bytes) ≡ now → n ≤ 8 * length bytes → length now.taken ≡ n
length-taken n bytes now view h = sym (ap (λ (s : Bitstream). length s.taken) view) ∙ length-take-le n (bits_of bytes) (omega (arith, length-bits_of bytes))

pub aligned_at : (place used : ℕ) (bytes : List ℕ) (now : Bitstream) → pointed (8 * place + used) (bits_of bytes) ≡ now → used < 8 → 8 * place + used ≤ 8 * length bytes → IsTrue (eqb used 0) ↔ (length now.taken % 8 ≡ 0)
aligned_at place used bytes now view h k = let same : length now.taken % 8 ≡ used = omega (arith, length-taken (8 * place + used) bytes now view k) in rw same (search (rules, tests))

-- ---- one bit

bit_at_front : (k : ℕ) (xs : List ℕ) → k < 8 → 1 ≤ length xs → drop k (bits_of xs) ≡ eqb (bit_and (get_or xs 0 0 / 2 ^ (7 - k)) 1) 1 ∷ drop (k + 1) (bits_of xs)
bit_at_front k [] h n = absurd (omega arith)
bit_at_front k (x ∷ xs) h n = next_bit k x xs h ∙ rw (shr_and_one x (7 - k)) refl

pub bit_at : (place used : ℕ) (bytes : List ℕ) → used < 8 → place < length bytes → drop (8 * place + used) (bits_of bytes) ≡ eqb (bit_and (get_or bytes place 0 / 2 ^ (7 - used)) 1) 1 ∷ drop (8 * place + (used + 1)) (bits_of bytes)
bit_at place used bytes h n =
    let byte : get_or (drop place bytes) 0 0 ≡ get_or bytes place 0 = get_or-drop place bytes 0 0 ∙ ap (λ k. get_or bytes k 0) (omega arith) in
    let first = bit_at_front used (drop place bytes) h (omega (arith, length-drop place bytes)) in
    left_at place used bytes ∙ first ∙ rw (byte, left_at place (used + 1) bytes) refl

pub next_bit_left : (place used to : ℕ) (bytes : List ℕ) (now : Bitstream) → pointed (8 * place + used) (bits_of bytes) ≡ now → used < 8 → place < length bytes → to ≡ 8 * place + (used + 1)
    → now.left ≡ eqb (bit_and (get_or bytes place 0 / 2 ^ (7 - used)) 1) 1 ∷ drop to (bits_of bytes)
next_bit_left place used to bytes now view h n e = rw e (sym (ap (λ (s : Bitstream). s.left) view) ∙ bit_at place used bytes h n)

pub none_left : (place used : ℕ) (bytes : List ℕ) (now : Bitstream) → pointed (8 * place + used) (bits_of bytes) ≡ now → place ≡ length bytes → now.left ≡ []
none_left place used bytes now view e = none now.left (omega (arith, length-left (8 * place + used) bytes now view, e))
  where
    none : (xs : List Bool) → length xs ≤ 0 → xs ≡ []
    none [] h = refl
    none (x ∷ xs) h = absurd (omega arith)

pub none_behind : (place : ℕ) (bytes : List ℕ) → length (take (length bytes - place) (drop place bytes)) < 1 → place ≤ length bytes → place ≡ length bytes
none_behind place bytes h k = omega (arith, ap length (take_rest bytes place), length-drop place bytes)

-- the bit that was taken last stands in this byte, or is the lowest one of the byte before
pub last_in_byte : (place used : ℕ) (bytes : List ℕ) (now : Bitstream) → pointed (8 * place + used) (bits_of bytes) ≡ now → 0 < used → used < 8 → place < length bytes
    → eqb (bit_and (get_or bytes place 0 / 2 ^ (8 - used)) 1) 1 ≡ last_bit now.taken
last_in_byte place used bytes now view some few room =
    let shift : 7 - (used - 1) ≡ 8 - used = omega arith in
    let bit = bit_at place (used - 1) bytes (omega arith) room in
    sym (last_bit-take (8 * place + (used - 1)) (8 * place + used) (bits_of bytes) _ _ (omega arith) (rw shift at bit)) ∙ ap (λ (s : Bitstream). last_bit s.taken) view

pub last_of_byte : (place used : ℕ) (bytes : List ℕ) (now : Bitstream) → pointed (8 * place + used) (bits_of bytes) ≡ now → used ≤ 0 → 0 < place → place ≤ length bytes
    → eqb (bit_and (get_or bytes (place - 1) 0) 1) 1 ≡ last_bit now.taken
last_of_byte place used bytes now view none some room =
    let shift : get_or bytes (place - 1) 0 / 2 ^ (7 - 7) ≡ get_or bytes (place - 1) 0 = omega arith in
    let bit = bit_at (place - 1) 7 bytes (omega arith) (omega arith) in
    sym (last_bit-take (8 * (place - 1) + 7) (8 * place + used) (bits_of bytes) _ _ (omega arith) (rw shift at bit)) ∙ ap (λ (s : Bitstream). last_bit s.taken) view

-- ---- several bits

pub skipped : (place used n whole : ℕ) (bytes : List ℕ) (now : Bitstream) → pointed (8 * place + used) (bits_of bytes) ≡ now → whole ≡ (used + n) / 8 → drop (8 * (place + whole) + (used + n) % 8) (bits_of bytes) ≡ drop n now.left
skipped place used n whole bytes now view e =
    let there : 8 * (place + whole) + (used + n) % 8 ≡ 8 * place + used + n = omega arith in
    ap (λ k. drop k (bits_of bytes)) there ∙ sym (drop-drop n (8 * place + used) (bits_of bytes)) ∙ ap (λ (s : Bitstream). drop n s.left) view

-- ---- windows

pub byte_fits : (i : ℕ) (xs : List ℕ) (window : ℕ) → i < 8 → window ≡ number (first (8 * i) (bits_of xs)) → window * 256 + 255 < 2 ^ 64
byte_fits i xs window h e =
    let below = number-first_below (8 * i) (bits_of xs) in
    let most : 2 ^ (8 * i) ≤ 2 ^ 56 = pow_most (8 * i) 56 (omega arith) in
    omega (arith, e, below, most)

pub next_byte : (i : ℕ) (xs : List ℕ) (window byte : ℕ) → window ≡ number (first (8 * i) (bits_of xs)) → byte ≡ get_or xs i 0 → get_or xs i 0 < 256 → window * 256 + byte ≡ number (first (8 * (i + 1)) (bits_of xs))
next_byte i xs window byte e f h = rw (e, f) (sym (number-bytes i xs h))

pub shifted : (used high next : ℕ) → used < 8 → next < 256 → high * 2 ^ used % 2 ^ 64 + next / 2 ^ (8 - used) ≡ (high * 256 + next) / 2 ^ (8 - used) % 2 ^ 64
shifted zero high next h k = omega arith
shifted (suc zero) high next h k = omega arith
shifted (suc (suc zero)) high next h k = omega arith
shifted (suc (suc (suc zero))) high next h k = omega arith
shifted (suc (suc (suc (suc zero)))) high next h k = omega arith
shifted (suc (suc (suc (suc (suc zero))))) high next h k = omega arith
shifted (suc (suc (suc (suc (suc (suc zero)))))) high next h k = omega arith
shifted (suc (suc (suc (suc (suc (suc (suc zero))))))) high next h k = omega arith
shifted (suc (suc (suc (suc (suc (suc (suc (suc used)))))))) high next h k = absurd (omega arith)

pub window_at : (used high next : ℕ) (xs : List ℕ) → used < 8 → high ≡ number (first 64 (bits_of xs)) → next ≡ get_or xs 8 0 → get_or xs 8 0 < 256 → (high * 256 + next) / 2 ^ (8 - used) % 2 ^ 64 ≡ number (first 64 (drop used (bits_of xs)))
window_at used high next xs h e f byte =
    let size : used + 64 + (8 - used) ≡ 72 = omega arith in
    let nine : number (first (used + 64 + (8 - used)) (bits_of xs)) ≡ high * 256 + next = ap (λ k. number (first k (bits_of xs))) size ∙ number-bytes 8 xs byte ∙ rw (e, f) refl in
    ap (λ k. k / 2 ^ (8 - used) % 2 ^ 64) (sym nine) ∙ number-window_behind used 64 (8 - used) (bits_of xs)

-- the first eight bytes at once
pub eight_at_once : (xs : List ℕ) → ((i : ℕ) → get_or xs i 0 < 256)
    → get_or xs 0 0 * 256 ^ 7 + get_or xs 1 0 * 256 ^ 6 + get_or xs 2 0 * 256 ^ 5 + get_or xs 3 0 * 256 ^ 4 + get_or xs 4 0 * 256 ^ 3 + get_or xs 5 0 * 256 ^ 2 + get_or xs 6 0 * 256 ^ 1 + get_or xs 7 0 ≡ number (first 64 (bits_of xs))
unfolding first
eight_at_once xs h =
    omega (
      arith,
      number-nil,
      number-bytes 0 xs (h 0),
      number-bytes 1 xs (h 1),
      number-bytes 2 xs (h 2),
      number-bytes 3 xs (h 3),
      number-bytes 4 xs (h 4),
      number-bytes 5 xs (h 5),
      number-bytes 6 xs (h 6),
      number-bytes 7 xs (h 7),
    )
