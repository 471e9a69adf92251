-- What the next 64 bits say of the bits that are left.
use Rattle.std.proofs.Common.{◌≡◌, ◌≢◌, ℕ, zero, suc, ◌+◌, ◌-◌, ◌*◌, ◌/◌, ◌^◌, ◌<◌, ◌≤◌, ◌⊎◌, eqb, cond, Bool, true, false, List, [], ◌∷◌, ◌++◌, length, take, drop, replicate, Option, Some, None, refl, sym, ap, ◌∙◌, subst, arith, inl, inr, length-append}
use Rattle.std.specs.Int.Count.{count_leading_zeros}
use Rattle.std.proofs.lemmas.Bool.{cases_lt, cases_Bool, eqb-true}
use Rattle.std.proofs.lemmas.Nat.{shr_high, leading_length}
use Rattle.std.proofs.lemmas.List.{append-nil, take-append-drop, take_at, get_or_past, length-replicate}
use Rattle.bit_texts.specs.Bits.{number, binary, first}
use Rattle.bit_texts.specs.Texts.{Appended}
use Rattle.bit_texts.proofs.Numbers.{length-binary, binary-none, binary-number, binary-add, binary-zero, pow_next}
use Rattle.bit_texts.proofs.Windows.{length-first, first-take, first-shorter, number-first_below}
use Rattle.code_tables.specs.Codes.{Code, code_at, present, IsEntry, IsCodeTable, word_at, BeginsWith}
use Rattle.cavlc_residual.specs.Level.{prefix_bits}

pub window_bits : (window : ℕ) (left : List Bool) → window ≡ number (first 64 left) → binary 64 window ≡ first 64 left
window_bits window left e =
    ap (binary 64) e ∙ ap (λ n. binary n (number (first 64 left))) (sym (length-first 64 left)) ∙ binary-number (first 64 left)

-- as far as the bits go, the window has them
shared_front : (n : ℕ) (left : List Bool) → n ≤ 64 → n ≤ length left → take n (first 64 left) ≡ take n left
shared_front n left h k = first-shorter n 64 left h ∙ first-take n left k

-- a text at the front of the bits stands at the front of the window
pub text_in_window : (left text more : List Bool) → left ≡ text ++ more → length text ≤ 64 → (rest : List Bool) × (first 64 left ≡ text ++ rest)
text_in_window left text more e h =
    let n : ℕ = length text in
    let size : n ≤ length left = omega (arith, ap length e, length-append text more) in
    let front : take n (first 64 left) ≡ text = shared_front n left h size ∙ ap (take n) e ∙ take_at text more n refl in
    (drop n (first 64 left), sym (take-append-drop n (first 64 left)) ∙ ap (λ t. t ++ drop n (first 64 left)) front)

-- and the other way round, where as many bits are left
pub text_from_window : (left text rest : List Bool) (n : ℕ) → first 64 left ≡ text ++ rest → length text ≡ n → n ≤ length left → left ≡ text ++ drop n left
text_from_window left text rest n e size h =
    let within : n ≤ 64 = omega (arith, size, ap length e, length-append text rest, length-first 64 left) in
    let front : take n left ≡ text = sym (shared_front n left within h) ∙ ap (take n) e ∙ take_at text rest n size in
    sym (take-append-drop n left) ∙ ap (λ t. t ++ drop n left) front

-- ---- a code word

word_size : (codes : List Code) (i : ℕ) → length (word_at codes i) ≡ (code_at codes i).0
word_size codes i = length-binary (code_at codes i).0 (code_at codes i).1

-- an entry stands within the table
pub entry_within : (codes : List Code) (i : ℕ) → IsEntry codes i → i < length codes
entry_within codes i is =
    elim (cases_lt i (length codes)) [
      | inl h ↦ h
      | inr h ↦ absurd (let P : Code → Type 0 = λ c. 0 < c.0 in let bad : 0 < 0 = subst P (get_or_past codes i (0, 0) h) is in omega arith)
    ]

pub no_code : (codes : List Code) (window : ℕ) (left : List Bool) → IsCodeTable codes → window ≡ number (first 64 left) → BeginsWith codes (binary 64 window) None → (i : ℕ) (more : List Bool) → IsEntry codes i → left ≢ word_at codes i ++ more
no_code codes window left table e none i more is bad =
    let here = text_in_window left (word_at codes i) more bad (omega (arith, word_size codes i, (table.fits i).0)) in
    none i here.0 is (window_bits window left e ∙ here.1)

pub code_cut : (codes : List Code) (window place : ℕ) (left : List Bool) → IsCodeTable codes → window ≡ number (first 64 left) → BeginsWith codes (binary 64 window) (Some place) → length left < (code_at codes place).0 → (i : ℕ) (more : List Bool) → IsEntry codes i → left ≢ word_at codes i ++ more
code_cut codes window place left table e found short i more is bad =
    let here = text_in_window left (word_at codes i) more bad (omega (arith, word_size codes i, (table.fits i).0)) in
    let same = table.prefix_free place i found.1.0 here.0 found.0 is (sym found.1.1 ∙ window_bits window left e ∙ here.1) in
    let size = ap (λ k. (code_at codes k).0) same in
    omega (arith, ap length bad, length-append (word_at codes i) more, word_size codes i, size, short)

pub code_found : (codes : List Code) (window place n : ℕ) (left new : List Bool) → window ≡ number (first 64 left) → BeginsWith codes (binary 64 window) (Some place) → n ≡ (code_at codes place).0 → n ≤ length left → new ≡ drop n left → IsEntry codes place × (left ≡ word_at codes place ++ new)
code_found codes window place n left new e found size h rest =
    (found.0, text_from_window left (word_at codes place) found.1.0 n (sym (window_bits window left e) ∙ found.1.1) (word_size codes place ∙ sym size) h ∙ ap (λ t. word_at codes place ++ t) (sym rest))

-- an entry that is absent has no bits
pub nothing_stands : (codes : List Code) (place : ℕ) (o : Option Code) (old : List Bool) → o ≡ present (code_at codes place) → o ≡ None → Appended old old (word_at codes place)
nothing_stands codes place o old entry none = by (cases_Bool (eqb (code_at codes place).0 0)) (sym entry ∙ none)
  where
    by : (eqb (code_at codes place).0 0 ≡ true) ⊎ (eqb (code_at codes place).0 0 ≡ false) → present (code_at codes place) ≡ None → Appended old old (word_at codes place)
    by (inl e) h =
        let zero_bits : word_at codes place ≡ [] = binary-none (code_at codes place).0 (code_at codes place).1 (omega (arith, eqb-true (code_at codes place).0 0 e)) in
        record { is = sym (append-nil old) ∙ ap (λ t. old ++ t) (sym zero_bits) }
    by (inr e) h =
        let P : Bool → Type 0 = λ b. cond b None (Some (code_at codes place)) ≡ None in
        absurd (let bad : ◌≡◌ {A = Option Code} (Some (code_at codes place)) None = subst P e h in cc)

-- ---- zeros and a one

pub binary-prefix : (p : ℕ) → binary (p + 1) 1 ≡ prefix_bits p
unfolding binary
binary-prefix p = binary-add p 1 1 ∙ ap (λ t. t ++ true ∷ []) (binary-zero p)

-- the zeros at the front of the window, and then a one, unless all are zeros
zeros_in_window : (window z : ℕ) (left : List Bool) → window ≡ number (first 64 left) → z ≡ count_leading_zeros 64 window → (rest : List Bool) × (first 64 left ≡ replicate z false ++ rest)
zeros_in_window window z left e zeros =
    let below : window < 2 ^ 64 = subst (λ n. n < 2 ^ 64) (sym e) (number-first_below 64 left) in
    let lead = leading_length 64 window below in
    let m = lead.0 in
    let size : 64 ≡ z + m = omega (arith, lead.1, zeros) in
    let none : window / 2 ^ m ≡ 0 =
    let split : window ≡ 0 * 2 ^ m + window = omega arith in
    ap (λ n. n / 2 ^ m) split ∙ shr_high 0 m window lead.2 in
    (binary m window, sym (window_bits window left e) ∙ ap (λ n. binary n window) size ∙ binary-add z m window ∙ ap (λ n. binary z n ++ binary m window) none ∙ ap (λ t. t ++ binary m window) (binary-zero z))

one_in_window : (window z : ℕ) (left : List Bool) → window ≡ number (first 64 left) → z ≡ count_leading_zeros 64 window → z < 64 → (rest : List Bool) × (first 64 left ≡ prefix_bits z ++ rest)
one_in_window window z left e zeros h =
    let below : window < 2 ^ 64 = subst (λ n. n < 2 ^ 64) (sym e) (number-first_below 64 left) in
    let lead = leading_length 64 window below in
    let k : ℕ = 63 - z in
    let digits : lead.0 ≡ k + 1 = omega (arith, lead.1, zeros, h) in
    let power : 2 ^ lead.0 ≡ 2 * 2 ^ k = ap (λ n. 2 ^ n) digits ∙ pow_next k in
    let size : 64 ≡ z + 1 + k = omega (arith, h) in
    let one : window / 2 ^ k ≡ 1 =
    let split : window ≡ 1 * 2 ^ k + (window - 2 ^ k) = omega (arith, lead.3, power) in
    ap (λ n. n / 2 ^ k) split ∙ shr_high 1 k (window - 2 ^ k) (omega (arith, lead.2, lead.3, power)) in
    (binary k window, sym (window_bits window left e) ∙ ap (λ n. binary n window) size ∙ binary-add (z + 1) k window ∙ ap (λ n. binary (z + 1) n ++ binary k window) one ∙ ap (λ t. t ++ binary k window) (binary-prefix z))

-- zeros, and then bits that begin with some zeros and a one
pub zeros_first : (p v : ℕ) (x y : List Bool) → replicate p false ++ x ≡ prefix_bits v ++ y → (k : ℕ) × (v ≡ p + k) × (x ≡ prefix_bits k ++ y)
zeros_first zero v x y e = (v, omega arith, e)
zeros_first (suc p) zero x y e = absurd (let bad : false ≡ true = cc in cc)
zeros_first (suc p) (suc v) x y e =
    let tail : replicate p false ++ x ≡ prefix_bits v ++ y = cc in
    let h = zeros_first p v x y tail in
    (h.0, omega arith, h.2)

pub prefix_size : (p : ℕ) → length (prefix_bits p) ≡ p + 1
prefix_size p = length-append (replicate p false) (true ∷ []) ∙ ap (λ n. n + 1) (length-replicate p false)

-- a level_prefix has at least the zeros of the window
pub prefix_above : (window z p : ℕ) (left more : List Bool) → window ≡ number (first 64 left) → z ≡ count_leading_zeros 64 window → p ≤ 20 → left ≡ prefix_bits p ++ more → (z ≤ p) × (p < length left)
prefix_above window z p left more e zeros h is =
    let here = text_in_window left (prefix_bits p) more is (omega (arith, prefix_size p, h)) in
    let front = zeros_in_window window z left e zeros in
    let more_zeros = zeros_first z p front.0 here.0 (sym front.1 ∙ here.1) in
    (omega (arith, more_zeros.1), omega (arith, ap length is, length-append (prefix_bits p) more, prefix_size p))

pub no_prefix_within : (window z bound : ℕ) (left : List Bool) → window ≡ number (first 64 left) → z ≡ count_leading_zeros 64 window → bound ≤ 20 → bound < z → (p : ℕ) (more : List Bool) → p ≤ bound → left ≢ prefix_bits p ++ more
no_prefix_within window z bound left e zeros h above p more within bad =
    let least = prefix_above window z p left more e zeros (omega arith) bad in omega (arith, least.0)

pub prefix_cut : (window z bound : ℕ) (left : List Bool) → window ≡ number (first 64 left) → z ≡ count_leading_zeros 64 window → bound ≤ 20 → length left < z + 1 → (p : ℕ) (more : List Bool) → p ≤ bound → left ≢ prefix_bits p ++ more
prefix_cut window z bound left e zeros h short p more within bad =
    let least = prefix_above window z p left more e zeros (omega arith) bad in omega (arith, least.0, least.1)

pub prefix_found : (window z bound : ℕ) (left new : List Bool) → window ≡ number (first 64 left) → z ≡ count_leading_zeros 64 window → bound ≤ 20 → z ≤ bound → z + 1 ≤ length left → new ≡ drop (z + 1) left → (z ≤ bound) × (left ≡ prefix_bits z ++ new)
prefix_found window z bound left new e zeros h within room rest =
    let here = one_in_window window z left e zeros (omega arith) in
    (within, text_from_window left (prefix_bits z) here.0 (z + 1) here.1 (prefix_size z) room ∙ ap (λ t. prefix_bits z ++ t) (sym rest))
