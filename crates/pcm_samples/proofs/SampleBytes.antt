-- Samples, eight at a time, and the bits that write them.
use Rattle.std.proofs.Common.{◌≡◌, ℕ, zero, suc, ◌+◌, ◌*◌, ◌/◌, ◌%◌, ◌^◌, ◌<◌, ◌≤◌, Bool, List, [], ◌∷◌, ◌++◌, length, take, drop, get_or, refl, sym, ap, ◌∙◌, append_assoc, length-append, arith}
use Rattle.std.specs.Prelude.{All}
use Rattle.std.specs.Int.{w64, byte_at, bytes_high_first, from_be_bytes}
use Rattle.std.proofs.Math.Nat.{pow-suc}
use Rattle.std.proofs.lemmas.Nat.{pow-add, be_bytes_8}
use Rattle.std.proofs.lemmas.List.{take-append-drop, drop-drop, length-take-le}
use Rattle.std.proofs.lemmas.List.Elements.{All-nil, All-cons}
use Rattle.bit_texts.specs.Bits.{number, binary, bits_of, first}
use Rattle.bit_texts.proofs.Numbers.{binary-add, binary-high, binary-number}
use Rattle.bit_texts.proofs.Bytes.{bits_of-cons, bits_of-append, length-bits_of}
use Rattle.bit_texts.proofs.Windows.{length-first, first-take}
use Rattle.pcm_samples.specs.Samples.{AreSamples}

-- ---- the bytes of a number

byte_powers : (k : ℕ) → 256 ^ k ≡ 2 ^ (8 * k)
byte_powers zero = refl
byte_powers (suc k) =
    let size : 8 * suc k ≡ 8 * k + 8 = omega arith in
    pow-suc 256 k ∙ ap (λ p. p * 256) (byte_powers k) ∙ sym (ap (λ j. 2 ^ j) size ∙ pow-add 2 (8 * k) 8)

low_byte : (v : ℕ) → binary 8 (v % 256) ≡ binary 8 v
low_byte v =
    let parts : v ≡ v / 256 * 2 ^ 8 + v % 256 = omega arith in
    sym (binary-high 8 (v / 256) (v % 256)) ∙ ap (binary 8) (sym parts)

byte_bits : (k n : ℕ) → binary 8 (byte_at k n) ≡ binary 8 (n / 2 ^ (8 * k))
byte_bits zero n = let all : n / 2 ^ (8 * 0) ≡ n = omega arith in rw all (low_byte n)
byte_bits (suc k) n = low_byte (n / 256 ^ suc k) ∙ ap (λ p. binary 8 (n / p)) (byte_powers (suc k))

-- the bits of the lowest k bytes, the highest first
high_first : (k n : ℕ) → bits_of (bytes_high_first k n) ≡ binary (8 * k) n
unfolding binary
high_first zero n = refl
high_first (suc k) n =
    let size : 8 * suc k ≡ 8 + 8 * k = omega arith in
    bits_of-cons (byte_at k n) (bytes_high_first k n) ∙ ap (λ t. binary 8 (byte_at k n) ++ t) (high_first k n)
    ∙ ap (λ t. t ++ binary (8 * k) n) (byte_bits k n) ∙ sym (ap (λ j. binary j n) size ∙ binary-add 8 (8 * k) n)

byte_most : (k n : ℕ) → byte_at k n ≤ 255
byte_most zero n = omega arith
byte_most (suc k) n = omega arith

pub high_first-most : (k n : ℕ) → All (λ sample. sample ≤ 255) (bytes_high_first k n)
high_first-most zero n = All-nil (λ sample. sample ≤ 255)
high_first-most (suc k) n = All-cons (λ sample. sample ≤ 255) (byte_at k n) (bytes_high_first k n) (byte_most k n) (high_first-most k n)

pub eight_bits : (n : ℕ) → bits_of (bytes_high_first 8 n) ≡ binary 64 n
eight_bits n = high_first 8 n

-- ---- reading

-- the window, as eight bytes
pub window_bits : (window : ℕ) (left new : List Bool) → window ≡ number (first 64 left) → 64 ≤ length left → new ≡ drop 64 left → left ≡ bits_of (bytes_high_first 8 window) ++ new
window_bits window left new e h k =
    let size : length (first 64 left) ≡ 64 = length-first 64 left in
    let front : binary 64 window ≡ take 64 left = ap (binary 64) e ∙ ap (λ j. binary j (number (first 64 left))) (sym size) ∙ binary-number (first 64 left) ∙ first-take 64 left h in
    sym (take-append-drop 64 left) ∙ ap (λ t. t ++ drop 64 left) (sym (eight_bits window ∙ front)) ∙ ap (λ t. bits_of (bytes_high_first 8 window) ++ t) (sym k)

-- eight samples more
pub samples_next : (start left new : List Bool) (front eight now : List ℕ) → start ≡ bits_of front ++ left → left ≡ bits_of eight ++ new → now ≡ front ++ eight → start ≡ bits_of now ++ new
samples_next start left new front eight now h k e =
    h ∙ ap (λ t. bits_of front ++ t) k ∙ sym (append_assoc (bits_of front) (bits_of eight) new) ∙ ap (λ t. t ++ new) (sym (bits_of-append front eight) ∙ ap bits_of (sym e))

-- fewer bits than those of the samples
pub samples_cut : (start left more : List Bool) (samples v : List ℕ) (i : ℕ) → length samples ≡ 384 → i < 48 → start ≡ bits_of (take (8 * i) samples) ++ left → length left < 64 → AreSamples v → start ≡ bits_of v ++ more → ⊥
samples_cut start left more samples v i size lt h short are e =
    let front : length (take (8 * i) samples) ≡ 8 * i = length-take-le (8 * i) samples (omega (arith, size)) in
    absurd (omega (arith, front, length-bits_of (take (8 * i) samples), length-bits_of v, are.count, ap length h, ap length e, length-append (bits_of (take (8 * i) samples)) left, length-append (bits_of v) more))

-- ---- writing

pub samples_from : (samples : List ℕ) (i j value : ℕ) → j ≡ 8 * i + 8 → binary 64 value ≡ bits_of (take 8 (drop (8 * i) samples)) → bits_of (drop (8 * i) samples) ≡ binary 64 value ++ bits_of (drop j samples)
samples_from samples i j value e h =
    let here = drop (8 * i) samples in
    let behind : drop 8 here ≡ drop j samples = drop-drop 8 (8 * i) samples ∙ ap (λ k. drop k samples) (sym e) in
    ap bits_of (sym (take-append-drop 8 here)) ∙ bits_of-append (take 8 here) (drop 8 here) ∙ ap (λ t. t ++ bits_of (drop 8 here)) (sym h) ∙ ap (λ t. binary 64 value ++ bits_of t) behind

small_behind : (a : ℕ) (xs : List ℕ) → ((i : ℕ) → get_or xs i 0 < 256) → (i : ℕ) → get_or (drop a xs) i 0 < 256
small_behind zero xs h i = h i
small_behind (suc a) [] h i = omega arith
small_behind (suc a) (x ∷ xs) h i = small_behind a xs (λ j. h (suc j)) i

small_before : (n : ℕ) (xs : List ℕ) → ((i : ℕ) → get_or xs i 0 < 256) → (i : ℕ) → get_or (take n xs) i 0 < 256
small_before zero xs h i = omega arith
small_before (suc n) [] h i = omega arith
small_before (suc n) (x ∷ xs) h zero = h 0
small_before (suc n) (x ∷ xs) h (suc i) = small_before n xs (λ j. h (suc j)) i

-- eight samples, as one number
pub eight_number : (samples eight : List ℕ) (i value : ℕ) → ((k : ℕ) → get_or samples k 0 < 256) → eight ≡ take 8 (drop (8 * i) samples) → length eight ≡ 8 → value ≡ from_be_bytes w64 eight → binary 64 value ≡ bits_of (take 8 (drop (8 * i) samples))
eight_number samples eight i value small e size h =
    let range : (k : ℕ) → get_or eight k 0 < 256 = λ k. rw e (small_before 8 (drop (8 * i) samples) (small_behind (8 * i) samples small) k) in
    sym (eight_bits value) ∙ ap bits_of (be_bytes_8 eight value size range h ∙ e)
