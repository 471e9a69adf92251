-- Predicates that can be searched: for each test, one of their values passes it, or none does. And claims that are decided:
-- they hold, or they don't.
use Rattle.std.proofs.Common.{◌≡◌, ℕ, zero, suc, ◌<◌, ◌≤◌, ℤ, pos, negsuc, ◌≤ℤ◌, Bool, true, false, ◌&&◌, List, [], ◌∷◌, length, ◌⊎◌, refl, ap, ◌∙◌, arith, inl, inr}
use Rattle.std.specs.List.{AllByRecursion}
use Rattle.std.proofs.lemmas.Int.{ints}
use Rattle.std.proofs.lemmas.Bool.Decides.{leb_tells, eqb_tells}
use Rattle.bit_texts.specs.Texts.{BothAre, IsWhen, AreTurns}
use Rattle.cavlc_residual.specs.Coefficients.{magnitude}

abbrev pub Found : {V : Type 0} → (V → Type 0) → (V → Bool) → Type 0
Found {V} Is test = ((v : V) × Is v × (test v ≡ true)) ⊎ ((v : V) → Is v → test v ≡ false)

abbrev pub Searches : {V : Type 0} → (V → Type 0) → Type 0
Searches {V} Is = (test : V → Bool) → Found Is test

abbrev pub Decided : Type 0 → Type 0
Decided P = P ⊎ (P → ⊥)

-- ---- a sum as a test, so that a search can stand in the test of another one

abbrev pub is_first : {P Q : Type 0} → P ⊎ Q → Bool
is_first (inl p) = true
is_first (inr q) = false

pub first_is : {P Q : Type 0} (s : P ⊎ Q) → is_first s ≡ true → P
first_is (inl p) e = p
first_is (inr q) e = absurd (cc)

pub second_is : {P Q : Type 0} (s : P ⊎ Q) → is_first s ≡ false → Q
second_is (inl p) e = absurd (cc)
second_is (inr q) e = q

decided_true : {P : Type 0} (s : Decided P) (b : Bool) → (is_first s && b) ≡ true → P × (b ≡ true)
decided_true (inl p) b e = (p, e)
decided_true (inr bad) b e = absurd (cc)

decided_false : {P : Type 0} (s : Decided P) (b : Bool) → P → (is_first s && b) ≡ false → b ≡ false
decided_false (inl p) b q e = e
decided_false (inr bad) b q e = absurd (bad q)

-- ---- other predicates from those that can be searched

-- the images of their values
pub images_searched : {V W : Type 0} (Is : V → Type 0) (Is' : W → Type 0) (f : V → W) → ((v : V) → Is v → Is' (f v)) → ((w : W) → Is' w → (v : V) × Is v × (w ≡ f v)) → Searches Is → Searches Is'
images_searched Is Is' f into from searched test = by (searched (λ v. test (f v)))
  where
    by : Found Is (λ v. test (f v)) → Found Is' test
    by (inl s) = inl (f s.0, into s.0 s.1, s.2)
    by (inr none) = inr (λ w h. let v = from w h in ap test v.2 ∙ none v.0 v.1)

-- the same values
pub same_searched : {V : Type 0} (Is Is' : V → Type 0) → ((v : V) → Is v → Is' v) → ((v : V) → Is' v → Is v) → Searches Is → Searches Is'
same_searched Is Is' into from searched = images_searched Is Is' (λ v. v) into (λ v h. (v, from v h, refl)) searched

-- those that meet a condition which is decided
pub conditions_searched : {V : Type 0} (Is Is' : V → Type 0) → ((v : V) → Decided (Is' v)) → Searches Is → Searches (λ v. Is v × Is' v)
conditions_searched Is Is' decided searched test = by (searched (λ v. is_first (decided v) && test v))
  where
    by : Found Is (λ v. is_first (decided v) && test v) → Found (λ v. Is v × Is' v) test
    by (inl s) = let both = decided_true (decided s.0) (test s.0) s.2 in inl (s.0, (s.1, both.0), both.1)
    by (inr none) = inr (λ v h. decided_false (decided v) (test v) h.1 (none v h.0))

-- the values of either
pub sums_searched : {V : Type 0} (Is Is' : V → Type 0) → Searches Is → Searches Is' → Searches (λ v. Is v ⊎ Is' v)
sums_searched Is Is' some others test = by (some test) (others test)
  where
    by : Found Is test → Found Is' test → Found (λ v. Is v ⊎ Is' v) test
    by (inl s) s' = inl (s.0, inl s.1, s.2)
    by (inr none) (inl s) = inl (s.0, inr s.1, s.2)
    by (inr none) (inr none') = inr (λ v h. elim h [ inl p ↦ none v p | inr p ↦ none' v p ])

-- a value, and a second one whose predicate depends on it
pub pairs_searched : {A B : Type 0} (Is : A → Type 0) (Is' : A → B → Type 0) → Searches Is → ((a : A) → Searches (Is' a)) → Searches (BothAre Is Is')
pairs_searched {A} {B} Is Is' some others test = by (some found)
  where
    second : (a : A) → Found (Is' a) (λ (b : B). test (a, b))
    second a = others a (λ b. test (a, b))

    found : A → Bool
    found a = is_first (second a)

    by : Found Is found → Found (BothAre Is Is') test
    by (inl s) = let t = first_is (second s.0) s.2 in inl ((s.0, t.0), (s.1, t.1), t.2)
    by (inr none) = inr (λ v h. second_is (second v.0) (none v.0 h.0) v.1 h.1)

-- ---- values

pub one_searched : {V : Type 0} (d : V) → Searches (λ v. v ≡ d)
one_searched {V} d test = by (test d) refl
  where
    by : (b : Bool) → test d ≡ b → Found (λ (v : V). v ≡ d) test
    by true e = inl (d, refl, e)
    by false e = inr (λ v h. ap test h ∙ e)

pub below_searched : (bound : ℕ) → Searches (λ n. n < bound)
below_searched zero = λ test. inr (λ n h. absurd (omega arith))
below_searched (suc bound) =
    same_searched (λ n. (n ≡ bound) ⊎ (n < bound)) (λ n. n < suc bound) below last
    (sums_searched (λ n. n ≡ bound) (λ n. n < bound) (one_searched bound) (below_searched bound))
  where
    below : (n : ℕ) → (n ≡ bound) ⊎ (n < bound) → n < suc bound
    below n (inl e) = omega arith
    below n (inr h) = omega arith

    last : (n : ℕ) → n < suc bound → (n ≡ bound) ⊎ (n < bound)
    last n h = elim (eqb_tells n bound) [ inl is ↦ inl is.1 | inr bad ↦ inr (let apart = bad.1 in omega arith) ]

pub at_most_searched : (most : ℕ) → Searches (λ n. n ≤ most)
at_most_searched most = same_searched (λ n. n < suc most) (λ n. n ≤ most) (λ n h. omega arith) (λ n h. omega arith) (below_searched (suc most))

pub magnitudes_searched : (bound : ℕ) → Searches (λ d. magnitude d ≤ bound)
magnitudes_searched bound test = by (at_most_searched bound (λ n. test (pos n))) (below_searched bound (λ n. test (negsuc n)))
  where
    none : ((n : ℕ) → n ≤ bound → test (pos n) ≡ false) → ((n : ℕ) → n < bound → test (negsuc n) ≡ false) → (d : ℤ) → magnitude d ≤ bound → test d ≡ false
    none p q (pos n) h = p n h
    none p q (negsuc n) h = q n (omega arith)

    by : Found (λ n. n ≤ bound) (λ n. test (pos n)) → Found (λ n. n < bound) (λ n. test (negsuc n)) → Found (λ d. magnitude d ≤ bound) test
    by (inl s) s' = inl (pos s.0, s.1, s.2)
    by (inr p) (inl s) = let h = s.1 in inl (negsuc s.0, omega arith, s.2)
    by (inr p) (inr q) = inr (none p q)

-- from -(low + 1) to high
pub between_searched : (low high : ℕ) → Searches (λ d. (negsuc low ≤ℤ d) × (d ≤ℤ pos high))
between_searched low high test = by (at_most_searched high (λ n. test (pos n))) (at_most_searched low (λ n. test (negsuc n)))
  where
    none : ((n : ℕ) → n ≤ high → test (pos n) ≡ false) → ((n : ℕ) → n ≤ low → test (negsuc n) ≡ false) → (d : ℤ) → (negsuc low ≤ℤ d) × (d ≤ℤ pos high) → test d ≡ false
    none p q (pos n) h = let under = h.1 in p n (omega (arith, ints))
    none p q (negsuc n) h = let over = h.0 in q n (omega (arith, ints))

    by : Found (λ n. n ≤ high) (λ n. test (pos n)) → Found (λ n. n ≤ low) (λ n. test (negsuc n)) → Found (λ d. (negsuc low ≤ℤ d) × (d ≤ℤ pos high)) test
    by (inl s) s' = let h = s.1 in inl (pos s.0, (omega (arith, ints), omega (arith, ints)), s.2)
    by (inr p) (inl s) = let h = s.1 in inl (negsuc s.0, (omega (arith, ints), omega (arith, ints)), s.2)
    by (inr p) (inr q) = inr (none p q)

-- a value under a condition
pub when_searched : {V : Type 0} (b : Bool) (d : V) (Is : V → Type 0) → Searches Is → Searches (IsWhen b d Is)
when_searched true d Is searched = searched
when_searched false d Is searched = one_searched d

-- ---- lists

-- the lists that begin with a value of the first predicate and go on with one of the second
abbrev IsList : {A : Type 0} → (A → Type 0) → (A → List A → Type 0) → List A → Type 0
IsList Is Are [] = ⊥
IsList Is Are (x ∷ xs) = Is x × Are x xs

more_searched : {A : Type 0} (Is : A → Type 0) (Are : A → List A → Type 0) → Searches Is → ((x : A) → Searches (Are x)) → Searches (IsList Is Are)
more_searched {A} Is Are first others = images_searched (BothAre Is Are) (IsList Is Are) (λ v. v.0 ∷ v.1) (λ v h. h) parts (pairs_searched Is Are first others)
  where
    parts : (xs : List A) → IsList Is Are xs → (v : A × List A) × BothAre Is Are v × (xs ≡ v.0 ∷ v.1)
    parts [] h = absurd h
    parts (x ∷ xs) h = ((x, xs), h, refl)

-- so many, each of which turns the state that the predicate of the next one depends on
pub turns_searched : {S A : Type 0} (Is : S → A → Type 0) (next : S → A → S) → ((s : S) → Searches (Is s)) → (n : ℕ) (s : S) → Searches (AreTurns Is next n s)
unfolding AreTurns
turns_searched {S} {A} Is next each zero s = same_searched (λ (xs : List A). xs ≡ []) (AreTurns Is next zero s) none all (one_searched [])
  where
    none : (xs : List A) → xs ≡ [] → AreTurns Is next zero s xs
    none [] e = tt
    none (x ∷ xs) e = absurd (cc)

    all : (xs : List A) → AreTurns Is next zero s xs → xs ≡ []
    all [] h = refl
    all (x ∷ xs) h = absurd h
turns_searched {S} {A} Is next each (suc n) s =
    same_searched (IsList (Is s) (λ x. AreTurns Is next n (next s x))) (AreTurns Is next (suc n) s) into from
    (more_searched (Is s) (λ x. AreTurns Is next n (next s x)) (each s) (λ x. turns_searched Is next each n (next s x)))
  where
    into : (xs : List A) → IsList (Is s) (λ x. AreTurns Is next n (next s x)) xs → AreTurns Is next (suc n) s xs
    into [] h = absurd h
    into (x ∷ xs) h = h

    from : (xs : List A) → AreTurns Is next (suc n) s xs → IsList (Is s) (λ x. AreTurns Is next n (next s x)) xs
    from [] h = absurd h
    from (x ∷ xs) h = h

-- so many of one predicate
abbrev pub AreMany : {A : Type 0} → (A → Type 0) → ℕ → List A → Type 0
AreMany Is n xs = (length xs ≡ n) × AllByRecursion Is xs

pub many_searched : {A : Type 0} (Is : A → Type 0) → Searches Is → (n : ℕ) → Searches (AreMany Is n)
many_searched {A} Is each zero = same_searched (λ (xs : List A). xs ≡ []) (AreMany Is zero) none all (one_searched [])
  where
    none : (xs : List A) → xs ≡ [] → AreMany Is zero xs
    none [] e = (refl, tt)
    none (x ∷ xs) e = absurd (cc)

    all : (xs : List A) → AreMany Is zero xs → xs ≡ []
    all [] h = refl
    all (x ∷ xs) h = let e = h.0 in absurd (omega arith)
many_searched {A} Is each (suc n) =
    same_searched (IsList Is (λ x. AreMany Is n)) (AreMany Is (suc n)) into from
    (more_searched Is (λ x. AreMany Is n) each (λ x. many_searched Is each n))
  where
    into : (xs : List A) → IsList Is (λ x. AreMany Is n) xs → AreMany Is (suc n) xs
    into [] h = absurd h
    into (x ∷ xs) h = let e = h.1.0 in (omega arith, (h.0, h.1.1))

    from : (xs : List A) → AreMany Is (suc n) xs → IsList Is (λ x. AreMany Is n) xs
    from [] h = let e = h.0 in absurd (omega arith)
    from (x ∷ xs) h = let e = h.0 in (h.1.0, (omega arith, h.1.1))

-- at most so many
pub at_most_many_searched : {A : Type 0} (Is : A → Type 0) → Searches Is → (most : ℕ) → Searches (λ xs. (length xs ≤ most) × AllByRecursion Is xs)
at_most_many_searched {A} Is each most =
    images_searched (BothAre (λ n. n ≤ most) (λ n. AreMany Is n)) (λ (xs : List A). (length xs ≤ most) × AllByRecursion Is xs) (λ v. v.1) (λ v h. within v.0 v.1 h.0 h.1)
    (λ xs h. ((length xs, xs), (h.0, (refl, h.1)), refl))
    (pairs_searched (λ n. n ≤ most) (λ n. AreMany Is n) (at_most_searched most) (λ n. many_searched Is each n))
  where
    within : (n : ℕ) (xs : List A) → n ≤ most → AreMany Is n xs → (length xs ≤ most) × AllByRecursion Is xs
    within n xs h are = let e = are.0 in (omega arith, are.1)

turns_length : {S A : Type 0} (Is : S → A → Type 0) (next : S → A → S) (n : ℕ) (s : S) (xs : List A) → AreTurns Is next n s xs → length xs ≡ n
unfolding AreTurns
turns_length Is next zero s [] are = refl
turns_length Is next zero s (x ∷ xs) are = absurd are
turns_length Is next (suc n) s [] are = absurd are
turns_length Is next (suc n) s (x ∷ xs) are = let more = turns_length Is next n (next s x) xs are.1 in omega arith

-- ---- claims that are decided

pub same_decided : {P Q : Type 0} → (P → Q) → (Q → P) → Decided P → Decided Q
same_decided f g (inl p) = inl (f p)
same_decided f g (inr bad) = inr (λ q. bad (g q))

pub both_decided : {P Q : Type 0} → Decided P → Decided Q → Decided (P × Q)
both_decided (inl p) (inl q) = inl (p, q)
both_decided (inl p) (inr bad) = inr (λ h. bad h.1)
both_decided (inr bad) q = inr (λ h. bad h.0)

pub most_decided : (a b : ℕ) → Decided (a ≤ b)
most_decided a b = elim (leb_tells a b) [ inl is ↦ inl is.1 | inr bad ↦ inr (λ h. let above = bad.1 in omega arith) ]

pub bools_decided : (a b : Bool) → Decided (a ≡ b)
bools_decided true true = inl refl
bools_decided true false = inr (λ e. cc)
bools_decided false true = inr (λ e. cc)
bools_decided false false = inl refl

pub numbers_decided : (a b : ℕ) → Decided (a ≡ b)
numbers_decided a b = elim (eqb_tells a b) [ inl is ↦ inl is.1 | inr bad ↦ inr bad.1 ]

pub signed_decided : (a b : ℤ) → Decided (a ≡ b)
signed_decided (pos a) (pos b) = same_decided (ap pos) (λ e. cc) (numbers_decided a b)
signed_decided (pos a) (negsuc b) = inr (λ e. cc)
signed_decided (negsuc a) (pos b) = inr (λ e. cc)
signed_decided (negsuc a) (negsuc b) = same_decided (ap negsuc) (λ e. cc) (numbers_decided a b)

pub lists_decided : {A : Type 0} → ((a b : A) → Decided (a ≡ b)) → (xs ys : List A) → Decided (xs ≡ ys)
lists_decided each [] [] = inl refl
lists_decided each [] (y ∷ ys) = inr (λ e. cc)
lists_decided each (x ∷ xs) [] = inr (λ e. cc)
lists_decided {A} each (x ∷ xs) (y ∷ ys) = same_decided join parts (both_decided (each x y) (lists_decided each xs ys))
  where
    join : (x ≡ y) × (xs ≡ ys) → x ∷ xs ≡ y ∷ ys
    join h = let e = h.0 in let f = h.1 in cc

    parts : x ∷ xs ≡ y ∷ ys → (x ≡ y) × (xs ≡ ys)
    parts e = (cc, cc)

pub all_decided : {A : Type 0} (Is : A → Type 0) → ((a : A) → Decided (Is a)) → (xs : List A) → Decided (AllByRecursion Is xs)
all_decided Is each [] = inl tt
all_decided Is each (x ∷ xs) = both_decided (each x) (all_decided Is each xs)

pub many_decided : {A : Type 0} (Is : A → Type 0) → ((a : A) → Decided (Is a)) → (n : ℕ) (xs : List A) → Decided (AreMany Is n xs)
many_decided Is each n xs = both_decided (numbers_decided (length xs) n) (all_decided Is each xs)

pub when_decided : {V : Type 0} (b : Bool) (d : V) (Is : V → Type 0) (v : V) → Decided (v ≡ d) → Decided (Is v) → Decided (IsWhen b d Is v)
when_decided true d Is v same is = is
when_decided false d Is v same is = same

pub turns_decided : {S A : Type 0} (Is : S → A → Type 0) (next : S → A → S) → ((s : S) (x : A) → Decided (Is s x)) → (n : ℕ) (s : S) (xs : List A) → Decided (AreTurns Is next n s xs)
unfolding AreTurns
turns_decided Is next each zero s [] = inl tt
turns_decided Is next each zero s (x ∷ xs) = inr (λ h. h)
turns_decided Is next each (suc n) s [] = inr (λ h. h)
turns_decided Is next each (suc n) s (x ∷ xs) = both_decided (each s x) (turns_decided Is next each n (next s x) xs)

-- ---- bits

-- a test of two lists of bits: they are the same where it is true (`first_is`), and differ where it is false (`second_is`)
pub bits_decided : (xs ys : List Bool) → Decided (xs ≡ ys)
bits_decided xs ys = lists_decided bools_decided xs ys

abbrev pub are_same_bits : List Bool → List Bool → Bool
are_same_bits xs ys = is_first (bits_decided xs ys)

pub are_same_bits-true : (xs ys : List Bool) → are_same_bits xs ys ≡ true → xs ≡ ys
are_same_bits-true xs ys e = first_is (bits_decided xs ys) e

pub are_same_bits-false : (xs ys : List Bool) → are_same_bits xs ys ≡ false → xs ≡ ys → ⊥
are_same_bits-false xs ys e = second_is (bits_decided xs ys) e
