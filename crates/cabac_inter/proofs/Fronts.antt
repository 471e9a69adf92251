-- The first elements of one list before the others of another one, and lists in the place of a list.
use Rattle.std.proofs.Common.{◌≡◌, ℕ, zero, suc, ◌+◌, ◌<◌, ◌≤◌, List, [], ◌∷◌, ◌++◌, length, take, drop, get_or, refl, ap, subst, ◌∙◌, arith}
use Rattle.std.specs.Prelude.{slice_set}
use Rattle.std.proofs.lemmas.List.{length-take-le, get_or_append_left, get_or-take, get_or-set_same, set-get_or}

abbrev pub front : {A : Type 0} → ℕ → List A → List A → List A
front k xs ys = take k xs ++ drop k ys

next_front : {A : Type 0} (k : ℕ) (xs ys : List A) (d : A) → k < length xs → length ys ≡ length xs → slice_set (front k xs ys) k (get_or xs k d) ≡ front (suc k) xs ys
next_front k [] ys d h e = absurd (omega (arith, h))
next_front k (x ∷ xs) [] d h e = absurd (omega (arith, e))
next_front zero (x ∷ xs) (y ∷ ys) d h e = refl
next_front (suc k) (x ∷ xs) (y ∷ ys) d h e = ap (λ l. x ∷ l) (next_front k xs ys d (omega (arith, h)) (omega (arith, e)))

pub front_more : {A : Type 0} (k : ℕ) (xs ys : List A) (d : A) → k < length xs → length ys ≡ length xs → slice_set (front k xs ys) k (get_or xs k d) ≡ front (k + 1) xs ys
front_more k xs ys d h e = next_front k xs ys d h e ∙ ap (λ n. front n xs ys) (let more : suc k ≡ k + 1 = omega arith in more)

pub front_all : {A : Type 0} (k : ℕ) (xs ys : List A) → k ≡ length xs → length ys ≡ length xs → front k xs ys ≡ xs
front_all k xs ys h e = subst (λ n. front n xs ys ≡ xs) (let all : length xs ≡ k = omega (arith, h) in all) (by xs ys e)
  where
    by : {A : Type 0} (xs ys : List A) → length ys ≡ length xs → front (length xs) xs ys ≡ xs
    by [] [] e = refl
    by [] (y ∷ ys) e = absurd (omega (arith, e))
    by (x ∷ xs) [] e = absurd (omega (arith, e))
    by (x ∷ xs) (y ∷ ys) e = ap (λ l. x ∷ l) (by xs ys (omega (arith, e)))

pub front_at : {A : Type 0} (k i : ℕ) (xs ys : List A) (d : A) → i < k → k ≤ length xs → get_or (front k xs ys) i d ≡ get_or xs i d
front_at k i xs ys d h e =
    let size = length-take-le k xs e in
    get_or_append_left (take k xs) (drop k ys) d i (omega (arith, h, size)) ∙ get_or-take k xs i d h

pub set_set : {A : Type 0} (xs : List A) (i : ℕ) (a b : A) → slice_set (slice_set xs i a) i b ≡ slice_set xs i b
set_set [] i a b = refl
set_set (x ∷ xs) zero a b = refl
set_set (x ∷ xs) (suc i) a b = ap (λ l. x ∷ l) (set_set xs i a b)

-- both of two lists
pub set_two : {A : Type 0} (xs ys : List A) (d : A) → length xs ≡ 2 → length ys ≡ 2 → slice_set (slice_set xs 0 (get_or ys 0 d)) 1 (get_or ys 1 d) ≡ ys
set_two [] ys d h k = absurd (omega (arith, h))
set_two (a ∷ []) ys d h k = absurd (omega (arith, h))
set_two (a ∷ b ∷ c ∷ xs) ys d h k = absurd (omega (arith, h))
set_two (a ∷ b ∷ []) [] d h k = absurd (omega (arith, k))
set_two (a ∷ b ∷ []) (u ∷ []) d h k = absurd (omega (arith, k))
set_two (a ∷ b ∷ []) (u ∷ v ∷ w ∷ ys) d h k = absurd (omega (arith, k))
set_two (a ∷ b ∷ []) (u ∷ v ∷ []) d h k = refl

-- ---- one of some lists, with its first elements from another list

abbrev pub put : {A : Type 0} → List (List A) → ℕ → List A → ℕ → List (List A)
put lists x xs k = slice_set lists x (front k xs (get_or lists x []))

module _ {A : Type 0} (lists : List (List A)) (x : ℕ) (xs : List A) (inside : x < length lists) (size : length (get_or lists x []) ≡ length xs) where
  pub put_none : put lists x xs 0 ≡ lists
  put_none = set-get_or lists x []

  pub put_list : (k : ℕ) → get_or (put lists x xs k) x [] ≡ front k xs (get_or lists x [])
  put_list k = get_or-set_same lists x (front k xs (get_or lists x [])) [] inside

  pub put_more : (k : ℕ) (d : A) → k < length xs → slice_set (put lists x xs k) x (slice_set (get_or (put lists x xs k) x []) k (get_or xs k d)) ≡ put lists x xs (k + 1)
  put_more k d h =
      ap (λ l. slice_set (put lists x xs k) x (slice_set l k (get_or xs k d))) (put_list k)
      ∙ set_set lists x _ _
      ∙ ap (λ l. slice_set lists x l) (front_more k xs (get_or lists x []) d h size)

  pub put_all : (k : ℕ) → k ≡ length xs → put lists x xs k ≡ slice_set lists x xs
  put_all k e = ap (λ l. slice_set lists x l) (front_all k xs (get_or lists x []) e size)

  pub put_at : (k i : ℕ) (d : A) → i < k → k ≤ length xs → get_or (get_or (put lists x xs k) x []) i d ≡ get_or xs i d
  put_at k i d h e = ap (λ l. get_or l i d) (put_list k) ∙ front_at k i xs (get_or lists x []) d h e
