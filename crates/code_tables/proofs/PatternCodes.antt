-- The codes of the patterns, by one test of each list.
use Rattle.std.proofs.Common.{◌≡◌, ℕ, zero, suc, ◌+◌, ◌*◌, ◌/◌, ◌%◌, ◌^◌, ◌<◌, ◌≤◌, eqb, Bool, true, false, List, [], ◌∷◌, length, get_or, nat_lt, Option, Some, None, refl, sym, ap, ◌∙◌, subst, arith}
use Rattle.std.specs.Prelude.{slice_get, option_map}
use Rattle.std.specs.List.{list_all}
use Rattle.std.proofs.lemmas.Bool.{false≢true, and_parts, eqb-true, ltb-true}
use Rattle.std.proofs.lemmas.Nat.{shr_high, mod_low, div_below, mod_below}
use Rattle.code_tables.specs.CodedBlockPattern.{pattern_at, pattern_list}
use Rattle.h264_types.specs.declared.macroblock.Pattern.{Pattern}
use Rattle.code_tables.specs.declared.patterns.TheConstants.{INTRA_CODES, INTER_CODES}
use Rattle.code_tables.proofs.CodeTables.{all_below, all_below-at}

abbrev is_some : Option ℕ → ℕ → Bool
is_some None n = false
is_some (Some m) n = eqb m n

is_some-same : (o : Option ℕ) (n : ℕ) → is_some o n ≡ true → o ≡ Some n
is_some-same None n h = absurd (false≢true h)
is_some-same (Some m) n h = ap Some (eqb-true m n h)

-- each number stands at the place that is its code
abbrev codes_fit : List ℕ → List ℕ → Bool
codes_fit numbers codes = all_below (λ n. is_some (slice_get numbers (get_or codes n 0)) n) 48

abbrev pattern : ℕ → Pattern
pattern number = record { luma = number % 16; chroma = number / 16 }

pattern_is : (l c n : ℕ) → l < 16 → n ≡ 16 * c + l → pattern n ≡ record { luma = l; chroma = c }
pattern_is l c n h e =
    let number : n ≡ c * 2 ^ 4 + l = omega (arith, e) in
    let low : n % 16 ≡ l = ap (λ k. k % 16) number ∙ mod_low c 4 l h in
    let high : n / 16 ≡ c = ap (λ k. k / 16) number ∙ shr_high c 4 l h in
    let P : ℕ → ℕ → Pattern = λ i k. record { luma = i; chroma = k } in
    ap (λ k. P k (n / 16)) low ∙ ap (λ k. P l k) high

found : (numbers codes : List ℕ) (l c n : ℕ) → codes_fit numbers codes ≡ true → l ≤ 15 → c ≤ 2 → n ≡ 16 * c + l → option_map pattern (slice_get numbers (get_or codes n 0)) ≡ Some (record { luma = l; chroma = c })
found numbers codes l c n h luma chroma e =
    let at = is_some-same (slice_get numbers (get_or codes n 0)) n (all_below-at (λ k. is_some (slice_get numbers (get_or codes k 0)) k) 48 n h (omega (arith, e, luma, chroma))) in
    ap (option_map pattern) at ∙ ap Some (pattern_is l c n (omega arith) e)

pub intra_found : (l c n : ℕ) → l ≤ 15 → c ≤ 2 → n ≡ 16 * c + l → pattern_at true (get_or INTRA_CODES n 0) ≡ Some (record { luma = l; chroma = c })
intra_found l c n luma chroma e = found (pattern_list true) INTRA_CODES l c n refl luma chroma e

pub inter_found : (l c n : ℕ) → l ≤ 15 → c ≤ 2 → n ≡ 16 * c + l → pattern_at false (get_or INTER_CODES n 0) ≡ Some (record { luma = l; chroma = c })
inter_found l c n luma chroma e = found (pattern_list false) INTER_CODES l c n refl luma chroma e

list_all-get : (p : ℕ → Bool) (xs : List ℕ) (i x : ℕ) → list_all p xs ≡ true → slice_get xs i ≡ Some x → p x ≡ true
list_all-get p [] i x all e = absurd (let bad : Some x ≡ None = sym e in cc)
list_all-get p (y ∷ ys) zero x all e = let same : y ≡ x = cc in ap p (sym same) ∙ (and_parts (p y) (list_all p ys) all).0
list_all-get p (y ∷ ys) (suc i) x all e = list_all-get p ys i x (and_parts (p y) (list_all p ys) all).1 e

small : (numbers : List ℕ) (place : ℕ) (q : Pattern) → list_all (λ n. nat_lt n 48) numbers ≡ true → option_map pattern (slice_get numbers place) ≡ Some q → (q.luma ≤ 15) × (q.chroma ≤ 2)
small numbers place q all e = by (slice_get numbers place) (list_all-get (λ n. nat_lt n 48) numbers place) e
  where
    by : (o : Option ℕ) → ((x : ℕ) → list_all (λ n. nat_lt n 48) numbers ≡ true → o ≡ Some x → nat_lt x 48 ≡ true) → option_map pattern o ≡ Some q → (q.luma ≤ 15) × (q.chroma ≤ 2)
    by None each e = absurd (let bad : Some q ≡ None = sym e in cc)
    by (Some n) each e =
        let same : pattern n ≡ q = cc in
        let below = ltb-true n 48 (each n all refl) in
        let P : Pattern → Type 0 = λ x. (x.luma ≤ 15) × (x.chroma ≤ 2) in
        subst P same (omega (arith, mod_below n 16 (omega arith)), omega (arith, div_below n 16 3 (omega arith) below))

pub pattern_small : (intra : Bool) (place : ℕ) (q : Pattern) → pattern_at intra place ≡ Some q → (q.luma ≤ 15) × (q.chroma ≤ 2)
pattern_small true place q e = small (pattern_list true) place q refl e
pattern_small false place q e = small (pattern_list false) place q refl e

-- ## One code

pub some_code : (intra : Bool) (p : Pattern) → p.luma < 16 → p.chroma < 3 → (place : ℕ) × (pattern_at intra place ≡ Some p)
some_code true p l c = (get_or INTRA_CODES (16 * p.chroma + p.luma) 0, intra_found p.luma p.chroma (16 * p.chroma + p.luma) (omega (arith, l)) (omega (arith, c)) refl)
some_code false p l c = (get_or INTER_CODES (16 * p.chroma + p.luma) 0, inter_found p.luma p.chroma (16 * p.chroma + p.luma) (omega (arith, l)) (omega (arith, c)) refl)

place_of : (numbers : List ℕ) (place n : ℕ) → slice_get numbers place ≡ Some n → (place < length numbers) × (get_or numbers place 0 ≡ n)
place_of [] place n h = absurd (let bad : Some n ≡ None = sym h in cc)
place_of (m ∷ ms) zero n h = (omega arith, cc)
place_of (m ∷ ms) (suc place) n h = let rest = place_of ms place n h in (omega (arith, rest.0), rest.1)

-- the code of the number at each place is the place
abbrev places_fit : List ℕ → List ℕ → Bool
places_fit numbers codes = all_below (λ place. eqb (get_or codes (get_or numbers place 0) 0) place) 48

number_of : (n : ℕ) (p : Pattern) → pattern n ≡ p → n ≡ 16 * p.chroma + p.luma
number_of n p e =
    let low : n % 16 ≡ p.luma = ap (λ q. q.luma) e in
    let high : n / 16 ≡ p.chroma = ap (λ q. q.chroma) e in
    omega (arith, low, high)

code_is : (numbers codes : List ℕ) (place : ℕ) (p : Pattern) → places_fit numbers codes ≡ true → length numbers ≡ 48 → option_map pattern (slice_get numbers place) ≡ Some p → place ≡ get_or codes (16 * p.chroma + p.luma) 0
code_is numbers codes place p fits size e = by (slice_get numbers place) refl e
  where
    by : (o : Option ℕ) → slice_get numbers place ≡ o → option_map pattern o ≡ Some p → place ≡ get_or codes (16 * p.chroma + p.luma) 0
    by None at e = absurd (let bad : Some p ≡ None = sym e in cc)
    by (Some n) at e =
        let there = place_of numbers place n at in
        let same : pattern n ≡ p = cc in
        let test = eqb-true (get_or codes (get_or numbers place 0) 0) place (all_below-at (λ k. eqb (get_or codes (get_or numbers k 0) 0) k) 48 place fits (omega (arith, there.0, size))) in
        sym test ∙ ap (λ k. get_or codes k 0) (there.1 ∙ number_of n p same)

pub one_code : (intra : Bool) (first second : ℕ) (p : Pattern) → pattern_at intra first ≡ Some p → pattern_at intra second ≡ Some p → first ≡ second
one_code true first second p h k = code_is (pattern_list true) INTRA_CODES first p refl refl h ∙ sym (code_is (pattern_list true) INTRA_CODES second p refl refl k)
one_code false first second p h k = code_is (pattern_list false) INTER_CODES first p refl refl h ∙ sym (code_is (pattern_list false) INTER_CODES second p refl refl k)
