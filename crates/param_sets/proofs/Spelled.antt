-- What bits spell, taken apart along a syntax table.
use Rattle.std.proofs.Common.{◌≡◌, ℕ, zero, suc, ℤ, ◌+◌, ◌^◌, ◌<◌, ◌≤◌, Bool, true, false, List, [], ◌∷◌, ◌++◌, length, refl, sym, ap, ◌∙◌, arith, append_assoc, inl, inr}
use Rattle.std.specs.Prelude.{◌⊎◌, ◌≤ℤ◌, ◌&&◌, nat_le}
use Rattle.std.specs.Int.RustNames.{int_le}
use Rattle.std.specs.List.{flat_map}
use Rattle.std.proofs.lemmas.Bool.{ltb-true}
use Rattle.std.proofs.lemmas.Bool.Decides.{nat_tests}
use Rattle.std.proofs.lemmas.Int.{ints}
use Rattle.std.proofs.lemmas.List.{append-nil}
use Rattle.bit_texts.specs.Texts.{AreTurns}
use Rattle.exp_golomb.specs.Code.{U, Ue, Se, is_in_range, place_of}
use Rattle.exp_golomb.proofs.Fronts.{both}
use Rattle.exp_golomb.proofs.Series.{series_found}
use Rattle.bit_texts.specs.Bits.{more_data}
use Rattle.exp_golomb.specs.Syntax.{Syntax, Done, Never, Refuse, Element, More, Bounded, Outcome, Found, Refused, Spells, outcome_of, ◌>>=◌, refused_where, in_range, series}

-- a value is found behind another one
pub found_then : {E A B : Type 0} (syntax : Syntax E A) (next : A → Syntax E B) (bits : List Bool) (value : B) (rest : List Bool) → Spells (syntax >>= next) bits (Found value rest)
    → (first : A) × (after : List Bool) × Spells syntax bits (Found first after) × Spells (next first) after (Found value rest)
found_then (Done first) next bits value rest h = (first, bits, refl, h)
found_then Never next bits value rest h = absurd h
found_then (Refuse cause) next bits value rest h = absurd cc
found_then (Element kind syntax) next bits value rest (x, after, in_range, text, others) =
    let f = found_then (syntax x) next after value rest others in
    (f.0, f.1, (x, after, in_range, text, f.2), f.3)
found_then (More syntax) next bits value rest h = found_then (syntax (more_data bits)) next bits value rest h
found_then (Bounded syntax) next bits value rest h = found_then (syntax (length bits)) next bits value rest h

-- a refusal is that of the first part, or of the second behind a value
pub refused_then : {E A B : Type 0} (syntax : Syntax E A) (next : A → Syntax E B) (bits : List Bool) (cause : E) → Spells (syntax >>= next) bits (Refused cause)
    → Spells syntax bits (Refused cause) ⊎ ((first : A) × (after : List Bool) × Spells syntax bits (Found first after) × Spells (next first) after (Refused cause))
refused_then (Done first) next bits cause h = inr (first, bits, refl, h)
refused_then Never next bits cause h = absurd h
refused_then (Refuse other) next bits cause h = inl cc
refused_then {E} {A} {B} (Element kind syntax) next bits cause (x, after, in_range, text, others) =
    elim (refused_then (syntax x) next after cause others) [
      | inl first ↦ inl (x, after, in_range, text, first)
      | inr second ↦ inr (second.0, second.1, (x, after, in_range, text, second.2), second.3)
    ]
refused_then (More syntax) next bits cause h = refused_then (syntax (more_data bits)) next bits cause h
refused_then (Bounded syntax) next bits cause h = refused_then (syntax (length bits)) next bits cause h

-- a value that is found was not refused, and is in range
pub found_allowed : {E A : Type 0} (holds : Bool) (cause : E) (next : Bool → Syntax E A) (bits : List Bool) (value : A) (rest : List Bool) → Spells (refused_where holds cause >>= next) bits (Found value rest)
    → (holds ≡ false) × Spells (next true) bits (Found value rest)
found_allowed true cause next bits value rest h = absurd cc
found_allowed false cause next bits value rest h = (refl, h)

pub found_in_range : {E A : Type 0} (holds : Bool) (next : Bool → Syntax E A) (bits : List Bool) (value : A) (rest : List Bool) → Spells (in_range holds >>= next) bits (Found value rest)
    → (holds ≡ true) × Spells (next true) bits (Found value rest)
found_in_range true next bits value rest h = (refl, h)
found_in_range false next bits value rest h = absurd h

pub same_found : {E A : Type 0} (value other : A) (rest after : List Bool) → (o : Outcome E A) → o ≡ Found value rest → o ≡ Found other after → (value ≡ other) × (rest ≡ after)
same_found value other rest after o h k = (cc, cc)

-- ---- texts at the front

pub record Begins (text bits rest : List Bool) : Type 0 where
  pub is : bits ≡ text ++ rest

pub begins : {text bits rest : List Bool} → bits ≡ text ++ rest → Begins text bits rest
begins h = record { is = h }

pub flag_begins : (flag : Bool) {bits rest : List Bool} → bits ≡ flag ∷ rest → Begins (flag ∷ []) bits rest
flag_begins flag h = record { is = h }

pub begins_then : {first second bits mid rest : List Bool} → Begins first bits mid → Begins second mid rest → Begins (first ++ second) bits rest
begins_then {first} {second} {bits} {mid} {rest} h k = record { is = h.is ∙ ap (λ (t : List Bool). first ++ t) k.is ∙ sym (append_assoc first second rest) }

pub begins_none : (bits : List Bool) → Begins [] bits bits
begins_none bits = record { is = refl }

pub begins_last : {text bits rest : List Bool} → Begins text bits rest → Begins (text ++ []) bits rest
begins_last {text} {bits} {rest} h = rw (append-nil text) h

-- ---- ranges of elements that are read

pub u_below : (n value : ℕ) → is_in_range (U n) value ≡ true → value < 2 ^ n
u_below n value h = ltb-true value (2 ^ n) h

pub ue_most : (greatest value : ℕ) → is_in_range (Ue greatest) value ≡ true → value ≤ greatest
ue_most greatest value h = grind (arith, nat_tests)

pub se_bounds : (least greatest value : ℤ) → is_in_range (Se least greatest) value ≡ true → (least ≤ℤ value) × (value ≤ℤ greatest)
se_bounds least greatest value h =
    let outer = both (int_le least value && int_le value greatest) (nat_le (place_of value) 4294967294) h in
    let inner = both (int_le least value) (int_le value greatest) outer.0 in
    (grind (arith, ints), grind (arith, ints))

-- ---- a series

pub series_spelled : {E A : Type 0} (Is : ℕ → A → Type 0) (text : A → List Bool) (syntax : ℕ → Syntax E A)
    → ((place : ℕ) (bits : List Bool) (value : A) (rest : List Bool) → Spells (syntax place) bits (Found value rest) → Is place value × (bits ≡ text value ++ rest))
    → (count place : ℕ) (bits : List Bool) (values : List A) (rest : List Bool) → Spells (series count place syntax) bits (Found values rest)
    → AreTurns Is (λ p x. p + 1) count place values × (bits ≡ flat_map text values ++ rest)
unfolding series AreTurns
series_spelled {E} {A} Is text syntax each zero place bits values rest h =
    let none : List A = [] in
    let same = same_found values none rest bits (Found values rest) refl h in
    rw (same.0, same.1) (tt, refl)
series_spelled {E} {A} Is text syntax each (suc count) place bits values rest h =
    let first = found_then (syntax place) (λ x. series count (place + 1) syntax >>= λ others. Done (x ∷ others)) bits values rest h in
    let others = found_then (series count (place + 1) syntax) (λ others. Done (first.0 ∷ others)) first.1 values rest first.3 in
    let one = each place bits first.0 first.1 first.2 in
    let more = series_spelled Is text syntax each count (place + 1) first.1 others.0 others.1 others.2 in
    let same = same_found values (first.0 ∷ others.0) rest others.1 (Found values rest) refl others.3 in
    done first.0 others.0 others.1 same.0 same.1 ((one.0, more.0), one.1 ∙ ap (λ t. text first.0 ++ t) more.1 ∙ sym (append_assoc (text first.0) (flat_map text others.0) others.1))
  where
    done : (x : A) (xs : List A) (tail : List Bool) → values ≡ x ∷ xs → rest ≡ tail → AreTurns Is (λ p x. p + 1) (suc count) place (x ∷ xs) × (bits ≡ (text x ++ flat_map text xs) ++ tail)
        → AreTurns Is (λ p x. p + 1) (suc count) place values × (bits ≡ flat_map text values ++ rest)
    done x xs tail e k so = rw (e, k) so

pub series_again : {E A : Type 0} (Is : ℕ → A → Type 0) (text : A → List Bool) (syntax : ℕ → Syntax E A)
    → ((place : ℕ) (value : A) (rest : List Bool) → Is place value → outcome_of (syntax place) (text value ++ rest) ≡ Found value rest)
    → (count place : ℕ) (values : List A) (rest : List Bool) → AreTurns Is (λ p x. p + 1) count place values
    → outcome_of (series count place syntax) (flat_map text values ++ rest) ≡ Found values rest
unfolding series AreTurns outcome_of
series_again Is text syntax each zero place [] rest h = refl
series_again Is text syntax each zero place (x ∷ xs) rest h = absurd h
series_again Is text syntax each (suc count) place [] rest h = absurd h
series_again Is text syntax each (suc count) place (x ∷ xs) rest h =
    let step = series_found count place syntax (text x ++ (flat_map text xs ++ rest)) (flat_map text xs ++ rest) x (each place x (flat_map text xs ++ rest) h.0) in
    simp append_assoc (step ∙ rw (series_again Is text syntax each count (place + 1) xs rest h.1) refl)
