-- A table whose numbers were read up to a place.
use Rattle.std.proofs.Common.{◌≡◌, ◌≢◌, ℕ, zero, suc, ◌+◌, ◌*◌, ◌/◌, ◌%◌, ◌<◌, ◌≤◌, ℤ, pos, List, [], ◌∷◌, length, drop, get_or, Some, None, inl, inr, ◌⊎◌, refl, sym, ap, ◌∙◌, arith, below_more, add-one, replicate}
use Rattle.std.specs.Prelude.{slice_get}
use Rattle.std.specs.Option.{option_and_then}
use Rattle.std.proofs.lemmas.List.{length-drop, get_or-replicate}
use Rattle.std.proofs.lemmas.Option.{slice_get_cases}
use Rattle.init_table.specs.InitTable.{pair_in, number_in}
use Rattle.init_table.specs.TableText.{IsFlat, FailsAt, Writes, number_of, number_at, words}

pub record HasRead (text : List ℕ) (rows : List (List (ℤ × ℤ))) (rest : List ℕ) (place : ℕ) : Type 0 where
  pub rest_is : words rest ≡ drop place (words text)
  pub numbers : (k : ℕ) → k < place → number_at text k ≡ Some (number_in rows k)

pub read-none : (text : List ℕ) (rows : List (List (ℤ × ℤ))) → HasRead text rows text 0
read-none text rows = record { rest_is = refl; numbers = λ k h. absurd (omega (arith, h)) }

get-drop : {X : Type 0} (xs : List X) (n : ℕ) → slice_get (drop n xs) 0 ≡ slice_get xs n
get-drop xs zero = refl
get-drop [] (suc n) = refl
get-drop (x ∷ xs) (suc n) = get-drop xs n

-- the first number of the rest is the next one of the text
next : (text : List ℕ) (rows : List (List (ℤ × ℤ))) (rest : List ℕ) (place : ℕ) → HasRead text rows rest place → number_at text place ≡ number_at rest 0
next text rows rest place r = ap (option_and_then number_of) (sym (ap (λ ws. slice_get ws 0) r.rest_is ∙ get-drop (words text) place))

drop-tail : {X : Type 0} (xs : List X) (n : ℕ) (x : X) (ys : List X) → drop n xs ≡ x ∷ ys → drop (n + 1) xs ≡ ys
drop-tail {X = X} xs n x ys h = rw (add-one n) (by n xs h)
  where
    by : (n : ℕ) (xs : List X) → drop n xs ≡ x ∷ ys → drop (suc n) xs ≡ ys
    by zero [] h = absurd (let bad : x ∷ ys ≡ [] = sym h in cc)
    by zero (z ∷ zs) h = cc
    by (suc n) [] h = absurd (let bad : x ∷ ys ≡ [] = sym h in cc)
    by (suc n) (z ∷ zs) h = by n zs h

pub read-more : (text : List ℕ) (rows new : List (List (ℤ × ℤ))) (rest behind : List ℕ) (place : ℕ) (value : ℤ) → HasRead text rows rest place → place < 3680
    → (word : List ℕ) → words rest ≡ word ∷ words behind → number_of word ≡ Some value
    → number_in new place ≡ value → ((other : ℕ) → other < 3680 → other ≢ place → number_in new other ≡ number_in rows other)
    → HasRead text new behind (place + 1)
read-more text rows new rest behind place value r below word front number same others = record {
  rest_is = sym (drop-tail (words text) place word (words behind) (sym r.rest_is ∙ front));
  numbers = below_more (λ k. number_at text k ≡ Some (number_in new k)) place
      (λ k h. r.numbers k h ∙ ap Some (sym (others k (omega arith) (omega arith))))
      (next text rows rest place r ∙ ap (λ ws. option_and_then number_of (slice_get ws 0)) front ∙ number ∙ ap Some (sym same));
}

pub fails : (text : List ℕ) (rows : List (List (ℤ × ℤ))) (rest : List ℕ) (place : ℕ) → (IsFlat text → ⊥) → HasRead text rows rest place → place < 3680 → number_at rest 0 ≡ None → FailsAt text place
fails text rows rest place flat r h none = record {
  not_flat = flat;
  numbers_before = λ k below. rw (r.numbers k below) refl;
  no_number = inl (h, next text rows rest place r ∙ none);
}

pub fails-at_end : (text : List ℕ) (rows : List (List (ℤ × ℤ))) (rest : List ℕ) → (IsFlat text → ⊥) → HasRead text rows rest 3680 → (word : List ℕ) (more : List (List ℕ)) → words rest ≡ word ∷ more → FailsAt text 3680
fails-at_end text rows rest flat r word more h = record {
  not_flat = flat;
  numbers_before = λ k below. rw (r.numbers k below) refl;
  no_number = inr (refl, let size = ap length (sym r.rest_is ∙ h) in omega (arith, size, length-drop 3680 (words text)));
}

m-of : (rows : List (List (ℤ × ℤ))) (ctx column : ℕ) → column < 4 → number_in rows (8 * ctx + 2 * column) ≡ (pair_in rows ctx column).0
m-of rows ctx column h =
    let place = 8 * ctx + 2 * column in
    let row : place / 8 ≡ ctx = omega (arith, h) in
    let at : place / 2 % 4 ≡ column = omega (arith, h) in
    let parity : place % 2 ≡ 0 = omega (arith, h) in
    rw parity (ap (λ i. (pair_in rows i (place / 2 % 4)).0) row ∙ ap (λ j. (pair_in rows ctx j).0) at)

n-of : (rows : List (List (ℤ × ℤ))) (ctx column : ℕ) → column < 4 → number_in rows (8 * ctx + 2 * column + 1) ≡ (pair_in rows ctx column).1
n-of rows ctx column h =
    let place = 8 * ctx + 2 * column + 1 in
    let row : place / 8 ≡ ctx = omega (arith, h) in
    let at : place / 2 % 4 ≡ column = omega (arith, h) in
    let parity : place % 2 ≡ 1 = omega (arith, h) in
    rw parity (ap (λ i. (pair_in rows i (place / 2 % 4)).1) row ∙ ap (λ j. (pair_in rows ctx j).1) at)

within : (text : List ℕ) (place : ℕ) (value : ℤ) → number_at text place ≡ Some value → place < length (words text)
within text place value h = by (slice_get_cases (words text) place).1
  where
    by : ((x : List ℕ) × (place < length (words text)) × (slice_get (words text) place ≡ Some x) × (get_or (words text) place x ≡ x)) ⊎ ((length (words text) ≤ place) × (slice_get (words text) place ≡ None)) → place < length (words text)
    by (inl w) = w.1
    by (inr w) = absurd (let bad : None ≡ Some value = sym (ap (option_and_then number_of) w.1) ∙ h in cc)

pub writes : (text : List ℕ) (rows : List (List (ℤ × ℤ))) (rest : List ℕ) → HasRead text rows rest 3680 → words rest ≡ [] → Writes text (pair_in rows)
writes text rows rest r none = record {
  m_is = λ ctx column h k. r.numbers (8 * ctx + 2 * column) (omega (arith, h, k)) ∙ ap Some (m-of rows ctx column k);
  n_is = λ ctx column h k. r.numbers (8 * ctx + 2 * column + 1) (omega (arith, h, k)) ∙ ap Some (n-of rows ctx column k);
  no_more =
      let size = ap length (sym r.rest_is ∙ none) in
      let last = within text 3679 (number_in rows 3679) (r.numbers 3679 (omega arith)) in
      omega (arith, size, last, length-drop 3680 (words text));
}

flat_row : (column : ℕ) (pair d : ℤ × ℤ) → column < 4 → get_or (pair ∷ pair ∷ pair ∷ pair ∷ []) column d ≡ pair
flat_row zero pair d h = refl
flat_row (suc zero) pair d h = refl
flat_row (suc (suc zero)) pair d h = refl
flat_row (suc (suc (suc zero))) pair d h = refl
flat_row (suc (suc (suc (suc column)))) pair d h = absurd (omega (arith, h))

-- each pair of a table of one pair
pub flat_pair : (count ctx column : ℕ) (pair : ℤ × ℤ) → ctx < count → column < 4 → pair_in (replicate count (pair ∷ pair ∷ pair ∷ pair ∷ [])) ctx column ≡ pair
flat_pair count ctx column pair h k = rw (get_or-replicate count ctx (pair ∷ pair ∷ pair ∷ pair ∷ []) [] h) (flat_row column pair (pos 0, pos 0) k)
