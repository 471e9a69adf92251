-- The test of a table, and what it says.
use Rattle.std.proofs.Common.{◌≡◌, ◌≢◌, ℕ, zero, suc, ◌^◌, ◌<◌, ◌≤◌, Bool, true, false, ◌&&◌, ◌||◌, cond, List, [], ◌∷◌, ◌++◌, length, get_or, ◌⊎◌, inl, inr, take, map, nat_lt, nat_le, refl, sym, ap, ◌∙◌, subst, arith}
use Rattle.std.specs.List.{list_all}
use Rattle.std.proofs.lemmas.List.{get_or-take, get_or_past, length-take}
use Rattle.std.proofs.lemmas.Bool.{false≢true, and_parts, ltb-true, leb-true, cases_lt}
use Rattle.bit_texts.specs.Bits.{binary}
use Rattle.bit_texts.proofs.Numbers.{length-binary}
use Rattle.code_tables.specs.Codes.{Code, code_at, IsEntry, IsCodeTable, word, word_at}

-- neither begins the other
abbrev pub are_apart : List Bool → List Bool → Bool
are_apart (true ∷ a) (true ∷ b) = are_apart a b
are_apart (true ∷ a) (false ∷ b) = true
are_apart (false ∷ a) (true ∷ b) = true
are_apart (false ∷ a) (false ∷ b) = are_apart a b
are_apart [] b = false
are_apart (x ∷ a) [] = false

abbrev pub is_nil : List Bool → Bool
is_nil [] = true
is_nil (x ∷ a) = false

abbrev pub all_apart : List (List Bool) → Bool
all_apart [] = true
all_apart (w ∷ ws) = (is_nil w || list_all (λ v. is_nil v || are_apart w v) ws) && all_apart ws

abbrev pub is_fit : Code → Bool
is_fit c = nat_le c.0 16 && nat_lt c.1 (2 ^ c.0)

abbrev pub is_code_table : List Code → Bool
is_code_table codes = list_all is_fit codes && all_apart (map word codes)

-- each test of a list holds at each place, also past the end where it holds of what stands there
pub list_all-at : {X : Type 0} (p : X → Bool) (xs : List X) (d : X) → p d ≡ true → list_all p xs ≡ true → (i : ℕ) → p (get_or xs i d) ≡ true
list_all-at p [] d past all i = past
list_all-at p (x ∷ xs) d past all zero = (and_parts (p x) (list_all p xs) all).0
list_all-at p (x ∷ xs) d past all (suc i) = list_all-at p xs d past (and_parts (p x) (list_all p xs) all).1 i

pub not_apart : (a b x y : List Bool) → are_apart a b ≡ true → a ++ x ≢ b ++ y
not_apart [] b x y h e = absurd (false≢true h)
not_apart (true ∷ a) [] x y h e = absurd (false≢true h)
not_apart (false ∷ a) [] x y h e = absurd (false≢true h)
not_apart (true ∷ a) (true ∷ b) x y h e = let tail : a ++ x ≡ b ++ y = cc in not_apart a b x y h tail
not_apart (false ∷ a) (false ∷ b) x y h e = let tail : a ++ x ≡ b ++ y = cc in not_apart a b x y h tail
not_apart (true ∷ a) (false ∷ b) x y h e = cc
not_apart (false ∷ a) (true ∷ b) x y h e = cc

-- of two words with bits that pass the test, none begins the other
not_apart_words : (v w x y : List Bool) → 0 < length v → 0 < length w → (is_nil v || (is_nil w || are_apart v w)) ≡ true → v ++ x ≢ w ++ y
not_apart_words [] w x y p q h e = omega arith
not_apart_words (b ∷ v) [] x y p q h e = omega arith
not_apart_words (b ∷ v) (c ∷ w) x y p q h e = not_apart (b ∷ v) (c ∷ w) x y h e

first_apart : (w : List Bool) (ws : List (List Bool)) (i : ℕ) → (is_nil w || list_all (λ v. is_nil v || are_apart w v) ws) ≡ true → (is_nil w || (is_nil (get_or ws i []) || are_apart w (get_or ws i []))) ≡ true
first_apart [] ws i h = refl
first_apart (b ∷ w) ws i h = list_all-at (λ v. is_nil v || are_apart (b ∷ w) v) ws [] refl h i

same_place : (ws : List (List Bool)) → all_apart ws ≡ true → (i j : ℕ) (x y : List Bool) → 0 < length (get_or ws i []) → 0 < length (get_or ws j []) → get_or ws i [] ++ x ≡ get_or ws j [] ++ y → i ≡ j
same_place [] h i j x y p q e = absurd (omega arith)
same_place (w ∷ ws) h zero zero x y p q e = refl
same_place (w ∷ ws) h zero (suc j) x y p q e =
    let first = and_parts (is_nil w || list_all (λ v. is_nil v || are_apart w v) ws) (all_apart ws) h in
    absurd (not_apart_words w (get_or ws j []) x y p q (first_apart w ws j first.0) e)
same_place (w ∷ ws) h (suc i) zero x y p q e =
    let first = and_parts (is_nil w || list_all (λ v. is_nil v || are_apart w v) ws) (all_apart ws) h in
    absurd (not_apart_words w (get_or ws i []) y x q p (first_apart w ws i first.0) (sym e))
same_place (w ∷ ws) h (suc i) (suc j) x y p q e =
    let first = and_parts (is_nil w || list_all (λ v. is_nil v || are_apart w v) ws) (all_apart ws) h in
    ap suc (same_place ws first.1 i j x y p q e)

words-at : (codes : List Code) (i : ℕ) → get_or (map word codes) i [] ≡ word_at codes i
unfolding binary
words-at [] i = refl
words-at (c ∷ codes) zero = refl
words-at (c ∷ codes) (suc i) = words-at codes i

pub IsCodeTable-from_check : (codes : List Code) → is_code_table codes ≡ true → IsCodeTable codes
IsCodeTable-from_check codes h =
    let parts = and_parts (list_all is_fit codes) (all_apart (map word codes)) h in
    let bits : (i : ℕ) → IsEntry codes i → 0 < length (get_or (map word codes) i []) = λ i p. (
    let n : length (get_or (map word codes) i []) ≡ (code_at codes i).0 = ap length (words-at codes i) ∙ length-binary (code_at codes i).0 (code_at codes i).1 in
    omega arith) in
    record {
      fits = λ i. (
          let c = code_at codes i in
          let tests = and_parts (nat_le c.0 16) (nat_lt c.1 (2 ^ c.0)) (list_all-at is_fit codes (0, 0) refl parts.0 i) in
          (leb-true c.0 16 tests.0, ltb-true c.1 (2 ^ c.0) tests.1));
      prefix_free = λ i j x y p q e. same_place (map word codes) parts.1 i j x y (bits i p) (bits j q)
          (ap (λ w. w ++ x) (words-at codes i) ∙ (e ∙ ap (λ w. w ++ y) (sym (words-at codes j))));
    }

-- ---- tables of other tables

pub IsCodeTable-cond : (b : Bool) (xs ys : List Code) → IsCodeTable xs → IsCodeTable ys → IsCodeTable (cond b xs ys)
IsCodeTable-cond true xs ys p q = p
IsCodeTable-cond false xs ys p q = q

pub IsCodeTable-nil : IsCodeTable []
IsCodeTable-nil = IsCodeTable-from_check [] refl

pub IsCodeTable-row : (rows : List (List Code)) (i : ℕ) → list_all is_code_table rows ≡ true → IsCodeTable (get_or rows i [])
IsCodeTable-row rows i h = IsCodeTable-from_check (get_or rows i []) (list_all-at is_code_table rows [] refl h i)

pub code_at-take : (n : ℕ) (codes : List Code) (i : ℕ) → ((i < n) × (code_at (take n codes) i ≡ code_at codes i)) ⊎ (code_at (take n codes) i ≡ (0, 0))
code_at-take n codes i =
    elim (cases_lt i n) [
      | inl h ↦ inl (h, get_or-take n codes i (0, 0) h)
      | inr h ↦ inr (get_or_past (take n codes) i (0, 0) (omega (arith, length-take n codes)))
    ]

pub IsCodeTable-take : (n : ℕ) (codes : List Code) → IsCodeTable codes → IsCodeTable (take n codes)
IsCodeTable-take n codes t = record {
  fits = λ i. (
      let P : Code → Type 0 = λ c. (c.0 ≤ 16) × (c.1 < 2 ^ c.0) in
      elim (code_at-take n codes i) as (λ _. P (code_at (take n codes) i)) [
        | inl h ↦ subst P (sym h.1) (t.fits i)
        | inr h ↦ subst P (sym h) (omega arith, omega arith)
      ]);
  prefix_free = λ i j x y p q e. (
      let P : Code → Type 0 = λ c. 0 < c.0 in
      elim (code_at-take n codes i) as (λ _. i ≡ j) [
        | inl h ↦ elim (code_at-take n codes j) as (λ _. i ≡ j) [
          | inl k ↦ t.prefix_free i j x y (subst P h.1 p) (subst P k.1 q)
              (ap (λ c. word c ++ x) (sym h.1) ∙ (e ∙ ap (λ c. word c ++ y) k.1))
          | inr k ↦ absurd (let bad : 0 < 0 = subst P k q in omega arith)
        ]
        | inr h ↦ absurd (let bad : 0 < 0 = subst P h p in omega arith)
      ]);
}

-- ---- a test of each number below another one

abbrev pub all_below : (ℕ → Bool) → ℕ → Bool
all_below p zero = true
all_below p (suc n) = p n && all_below p n

pub all_below-at : (p : ℕ → Bool) (n k : ℕ) → all_below p n ≡ true → k < n → p k ≡ true
all_below-at p zero k all h = absurd (omega arith)
all_below-at p (suc n) k all h = at p n k (and_parts (p n) (all_below p n) all) h (cases_lt k n) (λ l. all_below-at p n k (and_parts (p n) (all_below p n) all).1 l) where
  at : (p : ℕ → Bool) (n k : ℕ) → (p n ≡ true) × (all_below p n ≡ true) → k < suc n → (k < n) ⊎ (n ≤ k) → (k < n → p k ≡ true) → p k ≡ true
  at p n k all h (inl l) below = below l
  at p n k all h (inr l) below = let same : n ≡ k = omega arith in ap p (sym same) ∙ all.0
