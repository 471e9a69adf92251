-- The elements of places are those that their parts have.
use Rattle.std.proofs.Common.{◌≡◌, ℕ, ◌<◌, ◌≤◌, eqb, Bool, true, false, List, length, take, get_or, refl, sym, ap, subst, ◌∙◌, arith, inl, inr}
use Rattle.std.specs.Prelude.{◌&&◌}
use Rattle.std.proofs.lemmas.Bool.{cases_lt}
use Rattle.std.proofs.lemmas.Bool.Decides.{nat_tests}
use Rattle.std.proofs.lemmas.List.{length-take-le, get_or-take, get_or_default, get_or_past}
use Rattle.bit_texts.specs.Texts.{IsWhen}
use Rattle.cavlc_inter.specs.Parts.{first_of, is_sent, AreElements}
use Rattle.cavlc_inter.proofs.Firsts.{first_is, one_first, first_again}
use Rattle.cavlc_inter.proofs.Elements.{elements_at, elements_from, elements_length}

sent_where : (a n : ℕ) (h : Bool) → (eqb a n && h) ≡ true → h ≡ true
sent_where a n h e = grind (arith, nat_tests)

unsent_first : (a n : ℕ) (h : Bool) → a ≡ n → (eqb a n && h) ≡ false → h ≡ false
unsent_first a n h same e = grind (arith, nat_tests)

sent_first : (a n : ℕ) (h : Bool) → a ≡ n → (eqb a n && h) ≡ h
sent_first a n h same = grind (arith, nat_tests)

unsent_later : (a n : ℕ) (h : Bool) → a < n → (eqb a n && h) ≡ false
unsent_later a n h lt = grind (arith, nat_tests)

-- behind those before it, an element where nothing is sent
before_it : {A : Type 0} (xs : List A) (i k : ℕ) (none d : A) → k < i → i ≤ length xs → get_or (take i xs) k none ≡ get_or xs k d
before_it xs i k none d lt inside = get_or-take i xs k none lt ∙ get_or_default xs k none d (omega arith)

not_before_it : {A : Type 0} (xs : List A) (i k : ℕ) (none : A) → i ≤ k → i ≤ length xs → get_or (take i xs) k none ≡ none
not_before_it xs i k none ge inside = let size = length-take-le i xs inside in get_or_past (take i xs) k none (omega (arith, size))

pub elements_are : {A : Type 0} (count : ℕ) (part : ℕ → ℕ) (has : ℕ → Bool) (none : A) (Is : A → Type 0) (xs : List A) → length xs ≡ count
    → ((i : ℕ) (d : A) → i < count → has i ≡ true → Is (get_or xs i d)) → ((i : ℕ) (d : A) → i < count → has i ≡ false → get_or xs i d ≡ none)
    → ((i j : ℕ) (d : A) → i < count → j < count → part i ≡ part j → get_or xs i d ≡ get_or xs j d) → AreElements count part has none Is xs
elements_are {A} count part has none Is xs size there absent repeat =
    elements_from count part has none Is xs size (λ i d below.
    let P : ℕ → Type 0 = λ n. IsWhen (is_sent part has n) (get_or (take i xs) (first_of part n) none) Is (get_or xs i d) in
    subst P (sym (length-take-le i xs (omega (arith, below, size)))) (here i d below (is_sent part has i) refl))
  where
    here : (i : ℕ) (d : A) → i < count → (b : Bool) → is_sent part has i ≡ b → IsWhen b (get_or (take i xs) (first_of part i) none) Is (get_or xs i d)
    here i d below true e = there i d below (sent_where (first_of part i) i (has i) e)
    here i d below false e =
        let first = first_is part i in
        elim (cases_lt (first_of part i) i) [
          | inl lt ↦ repeat i (first_of part i) d below (omega (arith, lt, below)) (sym first.same) ∙ sym (before_it xs i (first_of part i) none d lt (omega (arith, below, size)))
          | inr ge ↦ absent i d below (unsent_first (first_of part i) i (has i) (omega (arith, ge, first.most)) e) ∙ sym (not_before_it xs i (first_of part i) none ge (omega (arith, below, size)))
        ]

-- an element where nothing is sent
at_unsent : {A : Type 0} (count : ℕ) (part : ℕ → ℕ) (has : ℕ → Bool) (none : A) (Is : A → Type 0) (xs : List A) → AreElements count part has none Is xs → (i : ℕ) (d : A) → i < count → is_sent part has i ≡ false → get_or xs i d ≡ get_or (take i xs) (first_of part i) none
at_unsent {A} count part has none Is xs are i d below e =
    let size : length (take i xs) ≡ i = length-take-le i xs (omega (arith, elements_length count part has none Is xs are)) in
    let P : ℕ → Type 0 = λ n. IsWhen (is_sent part has n) (get_or (take i xs) (first_of part n) none) Is (get_or xs i d) in
    let Q : Bool → Type 0 = λ b. IsWhen b (get_or (take i xs) (first_of part i) none) Is (get_or xs i d) in
    subst Q e (subst P size (elements_at count part has none Is xs are i d below))

at_sent : {A : Type 0} (count : ℕ) (part : ℕ → ℕ) (has : ℕ → Bool) (none : A) (Is : A → Type 0) (xs : List A) → AreElements count part has none Is xs → (i : ℕ) (d : A) → i < count → is_sent part has i ≡ true → Is (get_or xs i d)
at_sent {A} count part has none Is xs are i d below e =
    let size : length (take i xs) ≡ i = length-take-le i xs (omega (arith, elements_length count part has none Is xs are)) in
    let P : ℕ → Type 0 = λ n. IsWhen (is_sent part has n) (get_or (take i xs) (first_of part n) none) Is (get_or xs i d) in
    let Q : Bool → Type 0 = λ b. IsWhen b (get_or (take i xs) (first_of part i) none) Is (get_or xs i d) in
    subst Q e (subst P size (elements_at count part has none Is xs are i d below))

first_has_it : {A : Type 0} (count : ℕ) (part : ℕ → ℕ) (has : ℕ → Bool) (none : A) (Is : A → Type 0) (xs : List A) → AreElements count part has none Is xs → (i : ℕ) (d : A) → i < count → get_or xs i d ≡ get_or xs (first_of part i) d
first_has_it count part has none Is xs are i d below =
    elim (cases_lt (first_of part i) i) [
      | inl lt ↦ at_unsent count part has none Is xs are i d below (unsent_later (first_of part i) i (has i) lt) ∙ before_it xs i (first_of part i) none d lt (omega (arith, below, elements_length count part has none Is xs are))
      | inr ge ↦ let first = first_is part i in ap (λ k. get_or xs k d) (omega (arith, ge, first.most))
    ]

-- places of one part have one element
pub elements_repeat : {A : Type 0} (count : ℕ) (part : ℕ → ℕ) (has : ℕ → Bool) (none : A) (Is : A → Type 0) (xs : List A) → AreElements count part has none Is xs → (i j : ℕ) (d : A) → i < count → j < count → part i ≡ part j → get_or xs i d ≡ get_or xs j d
elements_repeat count part has none Is xs are i j d below inside e =
    first_has_it count part has none Is xs are i d below ∙ ap (λ k. get_or xs k d) (one_first part i j _ _ e (first_is part i) (first_is part j)) ∙ sym (first_has_it count part has none Is xs are j d inside)

abbrev pub Respects : ℕ → (ℕ → ℕ) → (ℕ → Bool) → Type 0
Respects count part has = (i j : ℕ) → i < count → j < count → part i ≡ part j → has i ≡ has j

pub element_there : {A : Type 0} (count : ℕ) (part : ℕ → ℕ) (has : ℕ → Bool) (none : A) (Is : A → Type 0) (xs : List A) → Respects count part has → AreElements count part has none Is xs → (i : ℕ) (d : A) → i < count → has i ≡ true → Is (get_or xs i d)
element_there count part has none Is xs respects are i d below e =
    let first = first_is part i in
    let k : ℕ = first_of part i in
    let inside : k < count = omega (arith, below, first.most) in
    subst Is (sym (first_has_it count part has none Is xs are i d below))
    (at_sent count part has none Is xs are k d inside (sent_first (first_of part k) k (has k) (first_again part i) ∙ respects k i inside below first.same ∙ e))

pub element_absent : {A : Type 0} (count : ℕ) (part : ℕ → ℕ) (has : ℕ → Bool) (none : A) (Is : A → Type 0) (xs : List A) → Respects count part has → AreElements count part has none Is xs → (i : ℕ) (d : A) → i < count → has i ≡ false → get_or xs i d ≡ none
element_absent count part has none Is xs respects are i d below e =
    let first = first_is part i in
    let k : ℕ = first_of part i in
    let inside : k < count = omega (arith, below, first.most) in
    let again : first_of part k ≡ k = first_again part i in
    first_has_it count part has none Is xs are i d below
    ∙ at_unsent count part has none Is xs are k d inside (sent_first (first_of part k) k (has k) again ∙ respects k i inside below first.same ∙ e)
    ∙ not_before_it xs k (first_of part k) none (omega (arith, again)) (omega (arith, inside, elements_length count part has none Is xs are))
