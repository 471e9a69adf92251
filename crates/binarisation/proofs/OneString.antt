-- No value has two strings of bins.
use Rattle.std.proofs.Common.{◌≡◌, ℕ, zero, suc, ◌+◌, ◌-◌, ◌*◌, ◌/◌, ◌^◌, ◌<◌, ◌≤◌, min, ℤ, pos, negsuc, unsigned_abs, eqb, ltb, Bool, true, false, cond, ◌&&◌, ◌||◌, List, [], ◌∷◌, ◌++◌, refl, sym, ap, subst, ◌∙◌, arith, add-one}
use Rattle.std.proofs.lemmas.Bool.{false≢true, and_parts, ltb-true}
use Rattle.std.proofs.lemmas.Bool.Decides.{nat_tests}
use Rattle.std.proofs.lemmas.Nat.{pow_pos, shr-shr}
use Rattle.std.proofs.Math.Nat.{lt-div-mul-add}
use Rattle.std.specs.Int.{from_bool}
use Rattle.bit_texts.proofs.Numbers.{from_bool-most}
use Rattle.cabac_engine.specs.Bins.{Slot, in_bypass}
use Rattle.binarisation.specs.BinString.{BinString, Value, NoValue, Next, Spells, ◌>>=◌, HasOneString}
use Rattle.binarisation.specs.Codes.{context_at, ones, unary, low_bits, suffix_above, suffix, ueg_behind, ueg, signed_of, signed}

-- ---- by the first bin

pub value_one : {A : Type 0} (x : A) → HasOneString (Value x)
value_one x bins others value first second = first.0 ∙ sym second.0

pub none_one : {A : Type 0} → HasOneString {A = A} NoValue
none_one bins others value first second = absurd first

-- where no value has strings of both first bins
pub next_one : {A : Type 0} (slot : Slot) (rest : Bool → BinString A) → HasOneString (rest false) → HasOneString (rest true)
    → ((bins others : List (Slot × Bool)) (value : A) → Spells (rest false) bins value → Spells (rest true) others value → ⊥) → HasOneString (Next slot rest)
next_one slot rest low high apart [] others value first second = absurd first
next_one slot rest low high apart (bin ∷ bins) [] value first second = absurd second
next_one slot rest low high apart ((k, false) ∷ bins) ((l, false) ∷ others) value first second =
    let e : bins ≡ others = low bins others value first.1 second.1 in
    let same : k ≡ l = first.0 ∙ sym second.0 in cc
next_one slot rest low high apart ((k, true) ∷ bins) ((l, true) ∷ others) value first second =
    let e : bins ≡ others = high bins others value first.1 second.1 in
    let same : k ≡ l = first.0 ∙ sym second.0 in cc
next_one slot rest low high apart ((k, false) ∷ bins) ((l, true) ∷ others) value first second = absurd (apart bins others value first.1 second.1)
next_one slot rest low high apart ((k, true) ∷ bins) ((l, false) ∷ others) value first second = absurd (apart others bins value second.1 first.1)

-- ---- strings of few values, by a test

-- the numbers of the values of a string, by a number of each value
abbrev pub numbers : {A : Type 0} → (A → ℕ) → BinString A → List ℕ
numbers of (Value x) = of x ∷ []
numbers of NoValue = []
numbers of (Next slot rest) = numbers of (rest false) ++ numbers of (rest true)

abbrev pub has : ℕ → List ℕ → Bool
has n [] = false
has n (m ∷ ms) = eqb n m || has n ms

abbrev pub are_apart : List ℕ → List ℕ → Bool
are_apart [] ms = true
are_apart (n ∷ ns) ms = cond (has n ms) false (are_apart ns ms)

-- no number comes twice
abbrev pub differ : {A : Type 0} → (A → ℕ) → BinString A → Bool
differ of (Value x) = true
differ of NoValue = true
differ of (Next slot rest) = are_apart (numbers of (rest false)) (numbers of (rest true)) && (differ of (rest false) && differ of (rest true))

has-itself : (n : ℕ) (ms : List ℕ) → has n (n ∷ ms) ≡ true
has-itself n ms = let e : eqb n n ≡ true = grind (arith, nat_tests) in rw e refl

or-first : (b x y : Bool) → (x ≡ true → y ≡ true) → (b || x) ≡ true → (b || y) ≡ true
or-first true x y f h = refl
or-first false x y f h = f h

or-second : (b x : Bool) → x ≡ true → (b || x) ≡ true
or-second true x h = refl
or-second false x h = h

has-first : (n : ℕ) (ms others : List ℕ) → has n ms ≡ true → has n (ms ++ others) ≡ true
has-first n [] others h = absurd (false≢true h)
has-first n (m ∷ ms) others h = or-first (eqb n m) (has n ms) (has n (ms ++ others)) (has-first n ms others) h

has-later : (n : ℕ) (ms others : List ℕ) → has n others ≡ true → has n (ms ++ others) ≡ true
has-later n [] others h = h
has-later n (m ∷ ms) others h = or-second (eqb n m) (has n (ms ++ others)) (has-later n ms others h)

has-spelled : {A : Type 0} (of : A → ℕ) (string : BinString A) (bins : List (Slot × Bool)) (value : A) → Spells string bins value → has (of value) (numbers of string) ≡ true
has-spelled {A} of (Value x) bins value h = subst (λ (y : A). has (of y) (of x ∷ []) ≡ true) h.1 (has-itself (of x) [])
has-spelled of NoValue bins value h = absurd h
has-spelled of (Next slot rest) [] value h = absurd h
has-spelled of (Next slot rest) ((kind, false) ∷ bins) value h = has-first (of value) (numbers of (rest false)) (numbers of (rest true)) (has-spelled of (rest false) bins value h.1)
has-spelled of (Next slot rest) ((kind, true) ∷ bins) value h = has-later (of value) (numbers of (rest false)) (numbers of (rest true)) (has-spelled of (rest true) bins value h.1)

apart : (n : ℕ) (ns ms : List ℕ) → are_apart ns ms ≡ true → has n ns ≡ true → has n ms ≡ true → ⊥
apart n [] ms h first second = false≢true first
apart n (m ∷ ns) ms h first second = by (has m ms) (eqb n m) refl refl h first (λ g k. apart n ns ms g k second)
  where
    by : (b c : Bool) → has m ms ≡ b → eqb n m ≡ c → cond b false (are_apart ns ms) ≡ true → (c || has n ns) ≡ true → (are_apart ns ms ≡ true → has n ns ≡ true → ⊥) → ⊥
    by true c e f g k more = false≢true g
    by false false e f g k more = more g k
    by false true e f g k more = let is : n ≡ m = grind (arith, nat_tests, f) in false≢true (sym e ∙ subst (λ (i : ℕ). has i ms ≡ true) is second)

-- a string whose values all have other numbers
pub differ_one : {A : Type 0} (of : A → ℕ) (string : BinString A) → differ of string ≡ true → HasOneString string
differ_one of (Value x) h = value_one x
differ_one of NoValue h = none_one
differ_one of (Next slot rest) h =
    let parts = and_parts (are_apart (numbers of (rest false)) (numbers of (rest true))) (differ of (rest false) && differ of (rest true)) h in
    let each = and_parts (differ of (rest false)) (differ of (rest true)) parts.1 in
    next_one slot rest (differ_one of (rest false) each.0) (differ_one of (rest true) each.1)
    (λ bins others value f g. apart (of value) (numbers of (rest false)) (numbers of (rest true)) parts.0 (has-spelled of (rest false) bins value f) (has-spelled of (rest true) others value g))

-- ---- one string, and then another

-- the bins of the one and those of the other
abbrev pub Splits : {A B : Type 0} → BinString A → (A → BinString B) → List (Slot × Bool) → B → Type 0
Splits {A} string next bins value = (x : A) × (first second : List (Slot × Bool)) × (bins ≡ first ++ second) × Spells string first x × Spells (next x) second value

pub splits : {A B : Type 0} (string : BinString A) (next : A → BinString B) (bins : List (Slot × Bool)) (value : B) → Spells (string >>= next) bins value → Splits string next bins value
unfolding ◌>>=◌
splits (Value x) next bins value h = (x, [], bins, refl, (refl, refl), h)
splits NoValue next bins value h = absurd h
splits (Next slot rest) next [] value h = absurd h
splits (Next slot rest) next ((kind, bit) ∷ bins) value h =
    let more = splits (rest bit) next bins value h.1 in
    (more.0, (kind, bit) ∷ more.1, more.2, ap (λ (l : List (Slot × Bool)). (kind, bit) ∷ l) more.3, (h.0, more.4), more.5)

-- where the value tells what the one string stands for
pub then_one : {A B : Type 0} (string : BinString A) (next : A → BinString B) (back : B → A) → HasOneString string → ((x : A) → HasOneString (next x))
    → ((first second : List (Slot × Bool)) (x : A) (value : B) → Spells string first x → Spells (next x) second value → back value ≡ x)
    → HasOneString (string >>= next)
then_one {A} {B} string next back one each told bins others value h g =
    let a = splits string next bins value h in
    let b = splits string next others value g in
    let same : b.0 ≡ a.0 = sym (told b.1 b.2 b.0 value b.4 b.5) ∙ told a.1 a.2 a.0 value a.4 a.5 in
    let first : a.1 ≡ b.1 = one a.1 b.1 a.0 a.4 (subst (λ (x : A). Spells string b.1 x) same b.4) in
    let second : a.2 ≡ b.2 = each a.0 a.2 b.2 value a.5 (subst (λ (x : A). Spells (next x) b.2 value) same b.5) in
    let left = a.3 in
    let right = b.3 in
    cc

-- ---- unary codes

pub ones-within : (contexts : List ℕ) (count most : ℕ) (bins : List (Slot × Bool)) (value : ℕ) → Spells (ones contexts count most) bins value → (count ≤ value) × (value ≤ count + most)
unfolding ones
ones-within contexts count zero bins value h = (omega (arith, h.1), omega (arith, h.1))
ones-within contexts count (suc most) [] value h = absurd h
ones-within contexts count (suc most) ((kind, true) ∷ bins) value h = let more = ones-within contexts (count + 1) most bins value h.1 in (omega (arith, more.0), omega (arith, more.1))
ones-within contexts count (suc most) ((kind, false) ∷ bins) value h = (omega (arith, h.1.1), omega (arith, h.1.1))

pub ones_one : (contexts : List ℕ) (count most : ℕ) → HasOneString (ones contexts count most)
unfolding ones
ones_one contexts count zero = value_one count
ones_one contexts count (suc most) =
    next_one (context_at contexts count) (λ one. cond one (ones contexts (count + 1) most) (Value count)) (value_one count) (ones_one contexts (count + 1) most)
    (λ bins others value h g. let more = ones-within contexts (count + 1) most others value g in omega (arith, more.0, h.1))

-- ---- low bits

low_bits-high : (high n : ℕ) (bins : List (Slot × Bool)) (value : ℕ) → Spells (low_bits high n) bins value → value / 2 ^ n ≡ high
unfolding low_bits
low_bits-high high zero bins value h = omega (arith, h.1)
low_bits-high high (suc n) [] value h = absurd h
low_bits-high high (suc n) ((kind, one) ∷ bins) value h =
    let more : value / 2 ^ n ≡ 2 * high + from_bool one = low_bits-high (2 * high + from_bool one) n bins value h.1 in
    let half : value / 2 ^ n / 2 ≡ value / 2 ^ suc n = rw add-one at (shr-shr value n 1) in
    sym half ∙ omega (arith, more, from_bool-most one)

low_bits_one : (high n : ℕ) → HasOneString (low_bits high n)
unfolding low_bits
low_bits_one high zero = value_one high
low_bits_one high (suc n) =
    next_one in_bypass (λ one. low_bits (2 * high + from_bool one) n) (low_bits_one (2 * high + 0) n) (low_bits_one (2 * high + 1) n)
    (λ bins others value h g.
    let a = low_bits-high (2 * high + 0) n bins value h in
    let b = low_bits-high (2 * high + 1) n others value g in
    omega (arith, a, b))

-- ---- suffixes

-- a value behind a zero
suffix-low : (base k : ℕ) (bins : List (Slot × Bool)) (value : ℕ) → Spells (low_bits 0 k >>= (λ low. Value (base + low))) bins value → (base ≤ value) × (value < base + 2 ^ k)
suffix-low base k bins value h =
    let parts = splits (low_bits 0 k) (λ (low : ℕ). Value (base + low)) bins value h in
    let none : parts.0 / 2 ^ k ≡ 0 = low_bits-high 0 k parts.1 parts.0 parts.4 in
    let below : parts.0 < parts.0 / 2 ^ k * 2 ^ k + 2 ^ k = lt-div-mul-add (pow_pos k) in
    let small : parts.0 < 2 ^ k = let least : parts.0 < 0 * 2 ^ k + 2 ^ k = rw none at below in omega (arith, least) in
    (omega (arith, parts.5.1), omega (arith, parts.5.1, small))

suffix-least : (base k most : ℕ) (bins : List (Slot × Bool)) (value : ℕ) → Spells (suffix_above base k most) bins value → base ≤ value
unfolding suffix_above
suffix-least base k zero bins value h = absurd h
suffix-least base k (suc most) [] value h = absurd h
suffix-least base k (suc most) ((kind, true) ∷ bins) value h = let more = suffix-least (base + 2 ^ k) (k + 1) most bins value h.1 in omega (arith, more)
suffix-least base k (suc most) ((kind, false) ∷ bins) value h = (suffix-low base k bins value h.1).0

low_one : (base k : ℕ) → HasOneString (low_bits 0 k >>= (λ low. Value (base + low)))
low_one base k = then_one (low_bits 0 k) (λ (low : ℕ). Value (base + low)) (λ value. value - base) (low_bits_one 0 k) (λ low. value_one (base + low)) (λ first second low value h g. omega (arith, g.1))

suffix_one : (base k most : ℕ) → HasOneString (suffix_above base k most)
unfolding suffix_above
suffix_one base k zero = none_one
suffix_one base k (suc most) =
    next_one in_bypass (λ one. cond one (suffix_above (base + 2 ^ k) (k + 1) most) (low_bits 0 k >>= (λ low. Value (base + low)))) (low_one base k) (suffix_one (base + 2 ^ k) (k + 1) most)
    (λ bins others value h g.
    let low = suffix-low base k bins value h in
    let least = suffix-least (base + 2 ^ k) (k + 1) most others value g in
    omega (arith, low.1, least))

-- ---- UEGk, and signs

behind_one : (prefix k most count : ℕ) → HasOneString (ueg_behind prefix k most count)
unfolding ueg_behind suffix
behind_one prefix k most count = by (ltb count prefix)
  where
    by : (few : Bool) → HasOneString (cond few (Value count) (suffix k most >>= (λ more. Value (prefix + more))))
    by true = value_one count
    by false = then_one (suffix k most) (λ (more : ℕ). Value (prefix + more)) (λ value. value - prefix) (suffix_one 0 k most) (λ more. value_one (prefix + more)) (λ first second more value h g. omega (arith, g.1))

behind-back : (prefix k most count : ℕ) (bins : List (Slot × Bool)) (value : ℕ) → count ≤ prefix → Spells (ueg_behind prefix k most count) bins value → min value prefix ≡ count
unfolding ueg_behind
behind-back prefix k most count bins value within h = by (ltb count prefix) refl h
  where
    by : (few : Bool) → ltb count prefix ≡ few → Spells (cond few (Value count) (suffix k most >>= (λ more. Value (prefix + more)))) bins value → min value prefix ≡ count
    by true e g = let less : count < prefix = ltb-true count prefix e in omega (arith, g.1)
    by false e g =
        let parts = splits (suffix k most) (λ (more : ℕ). Value (prefix + more)) bins value g in
        let all : count ≡ prefix = grind (arith, nat_tests, e) in
        omega (arith, parts.5.1)

pub ueg_one : (contexts : List ℕ) (prefix k most : ℕ) → HasOneString (ueg contexts prefix k most)
unfolding ueg unary
ueg_one contexts prefix k most = then_one (unary contexts prefix) (ueg_behind prefix k most) (λ value. min value prefix) (ones_one contexts 0 prefix) (behind_one prefix k most)
    (λ first second count value h g. let within = ones-within contexts 0 prefix first count h in behind-back prefix k most count second value (omega (arith, within.1)) g)

sign_one : (magnitude : ℕ) → eqb magnitude 0 ≡ false → HasOneString (Next in_bypass (λ minus. Value (signed_of magnitude minus)))
sign_one zero some = absurd (false≢true (sym some))
sign_one (suc n) some = next_one in_bypass (λ minus. Value (signed_of (suc n) minus)) (value_one (pos (suc n))) (value_one (negsuc n)) (λ bins others value h g. let e : pos (suc n) ≡ negsuc n = h.1 ∙ sym g.1 in cc)

pub signed_one : (greatest magnitude : ℕ) → HasOneString (signed greatest magnitude)
unfolding signed
signed_one greatest magnitude = by (eqb magnitude 0) (ltb greatest magnitude) refl
  where
    by : (none above : Bool) → eqb magnitude 0 ≡ none → HasOneString (cond none (Value (pos 0)) (cond above NoValue (Next in_bypass (λ minus. Value (signed_of magnitude minus)))))
    by true above e = value_one (pos 0)
    by false true e = none_one
    by false false e = sign_one magnitude e

magnitude-back : (magnitude : ℕ) (minus : Bool) → unsigned_abs (signed_of magnitude minus) ≡ magnitude
magnitude-back zero minus = refl
magnitude-back (suc n) true = refl
magnitude-back (suc n) false = refl

pub signed-back : (greatest magnitude : ℕ) (bins : List (Slot × Bool)) (value : ℤ) → Spells (signed greatest magnitude) bins value → unsigned_abs value ≡ magnitude
unfolding signed
signed-back greatest magnitude bins value h = by (eqb magnitude 0) (ltb greatest magnitude) bins refl h
  where
    by : (none above : Bool) (bins : List (Slot × Bool)) → eqb magnitude 0 ≡ none → Spells (cond none (Value (pos 0)) (cond above NoValue (Next in_bypass (λ minus. Value (signed_of magnitude minus))))) bins value → unsigned_abs value ≡ magnitude
    by true above bins e g = let is : magnitude ≡ 0 = grind (arith, nat_tests, e) in ap unsigned_abs (sym g.1) ∙ sym is
    by false true bins e g = absurd g
    by false false [] e g = absurd g
    by false false ((kind, minus) ∷ bins) e g = ap unsigned_abs (sym g.1.1) ∙ magnitude-back magnitude minus
