-- A number put into the table.
use Rattle.std.proofs.Common.{◌≡◌, ◌≢◌, ℕ, ◌/◌, ◌%◌, ◌<◌, ℤ, pos, Bool, true, false, cond, eqb, List, [], length, get_or, set, refl, sym, ap, subst, ◌∙◌, arith, get_or-set_same, get_or-set_other}
use Rattle.std.proofs.lemmas.Bool.{eqb-true, eqb-false}
use Rattle.init_table.specs.InitTable.{pair_in, pair_with, number_in}

abbrev pub put : List (List (ℤ × ℤ)) → ℕ → ℤ × ℤ → List (List (ℤ × ℤ))
put rows place pair = set rows (place / 8) (set (get_or rows (place / 8) []) (place / 2 % 4) pair)

pair-same : (rows : List (List (ℤ × ℤ))) (i j : ℕ) (pair : ℤ × ℤ) → i < length rows → j < length (get_or rows i []) → pair_in (set rows i (set (get_or rows i []) j pair)) i j ≡ pair
pair-same rows i j pair h k = rw (get_or-set_same rows i (set (get_or rows i []) j pair) [] h) (get_or-set_same (get_or rows i []) j pair (pos 0, pos 0) k)

pair-other_row : (rows : List (List (ℤ × ℤ))) (i j p q : ℕ) (pair : ℤ × ℤ) → p ≢ i → pair_in (set rows i (set (get_or rows i []) j pair)) p q ≡ pair_in rows p q
pair-other_row rows i j p q pair h = ap (λ row. get_or row q (pos 0, pos 0)) (get_or-set_other rows i p (set (get_or rows i []) j pair) [] h)

pair-other_column : (rows : List (List (ℤ × ℤ))) (i j q : ℕ) (pair : ℤ × ℤ) → i < length rows → q ≢ j → pair_in (set rows i (set (get_or rows i []) j pair)) i q ≡ pair_in rows i q
pair-other_column rows i j q pair h ne = rw (get_or-set_same rows i (set (get_or rows i []) j pair) [] h) (get_or-set_other (get_or rows i []) j q pair (pos 0, pos 0) ne)

pub number-same : (rows : List (List (ℤ × ℤ))) (place : ℕ) (value : ℤ) (pair : ℤ × ℤ) → place < 3680 → length rows ≡ 460 → length (get_or rows (place / 8) []) ≡ 4
    → pair ≡ pair_with (eqb (place % 2) 0) value (pair_in rows (place / 8) (place / 2 % 4)) → number_in (put rows place pair) place ≡ value
number-same rows place value pair h size width is =
    let e : pair_in (put rows place pair) (place / 8) (place / 2 % 4) ≡ pair_with (eqb (place % 2) 0) value (pair_in rows (place / 8) (place / 2 % 4)) = pair-same rows (place / 8) (place / 2 % 4) pair (omega arith) (omega arith) ∙ is in
    by (eqb (place % 2) 0) (pair_in rows (place / 8) (place / 2 % 4)) e
  where
    by : (b : Bool) (old : ℤ × ℤ) → pair_in (put rows place pair) (place / 8) (place / 2 % 4) ≡ pair_with b value old → cond b (pair_in (put rows place pair) (place / 8) (place / 2 % 4)).0 (pair_in (put rows place pair) (place / 8) (place / 2 % 4)).1 ≡ value
    by true old e = ap (λ p. p.0) e
    by false old e = ap (λ p. p.1) e

-- the other number of a pair
other_part : (a b : Bool) (p q : ℕ) (value : ℤ) (old : ℤ × ℤ) → eqb p 0 ≡ a → eqb q 0 ≡ b → p < 2 → q < 2 → p ≢ q → cond b (pair_with a value old).0 (pair_with a value old).1 ≡ cond b old.0 old.1
other_part true true p q value old a b h k ne = absurd (ne (eqb-true p 0 a ∙ sym (eqb-true q 0 b)))
other_part true false p q value old a b h k ne = refl
other_part false true p q value old a b h k ne = refl
other_part false false p q value old a b h k ne = absurd (ne (let x = eqb-false p 0 a in let y = eqb-false q 0 b in omega arith))

pub number-others : (rows : List (List (ℤ × ℤ))) (place : ℕ) (value : ℤ) (pair : ℤ × ℤ) → place < 3680 → length rows ≡ 460 → length (get_or rows (place / 8) []) ≡ 4
    → pair ≡ pair_with (eqb (place % 2) 0) value (pair_in rows (place / 8) (place / 2 % 4)) → (other : ℕ) → other < 3680 → other ≢ place → number_in (put rows place pair) other ≡ number_in rows other
number-others rows place value pair h size width is other below ne =
    by_row (eqb (other / 8) (place / 8)) refl
  where
    whole : pair_in (put rows place pair) (other / 8) (other / 2 % 4) ≡ pair_in rows (other / 8) (other / 2 % 4) → number_in (put rows place pair) other ≡ number_in rows other
    whole e = ap (λ x. cond (eqb (other % 2) 0) x.0 x.1) e

    by_column : (b : Bool) → eqb (other / 2 % 4) (place / 2 % 4) ≡ b → other / 8 ≡ place / 8 → number_in (put rows place pair) other ≡ number_in rows other
    by_column true e row =
        let column = eqb-true (other / 2 % 4) (place / 2 % 4) e in
        let parity : other % 2 ≢ place % 2 = λ p. ne (omega (arith, row, column, p)) in
        let old = pair_in rows (place / 8) (place / 2 % 4) in
        let there : pair_in (put rows place pair) (other / 8) (other / 2 % 4) ≡ pair = rw row (rw column (pair-same rows (place / 8) (place / 2 % 4) pair (omega (arith, h, size)) (omega (arith, width)))) in
        let was : pair_in rows (other / 8) (other / 2 % 4) ≡ old = rw row (rw column refl) in
        ap (λ x. cond (eqb (other % 2) 0) x.0 x.1) (there ∙ is)
        ∙ other_part (eqb (place % 2) 0) (eqb (other % 2) 0) (place % 2) (other % 2) value old refl refl (omega arith) (omega arith) (λ e. parity (sym e))
        ∙ ap (λ x. cond (eqb (other % 2) 0) x.0 x.1) (sym was)
    by_column false e row = whole (subst (λ r. pair_in (put rows place pair) r (other / 2 % 4) ≡ pair_in rows r (other / 2 % 4)) (sym row) (pair-other_column rows (place / 8) (place / 2 % 4) (other / 2 % 4) pair (omega (arith, h, size)) (eqb-false (other / 2 % 4) (place / 2 % 4) e)))

    by_row : (b : Bool) → eqb (other / 8) (place / 8) ≡ b → number_in (put rows place pair) other ≡ number_in rows other
    by_row true e = by_column (eqb (other / 2 % 4) (place / 2 % 4)) refl (eqb-true (other / 8) (place / 8) e)
    by_row false e = whole (pair-other_row rows (place / 8) (place / 2 % 4) (other / 8) (other / 2 % 4) pair (eqb-false (other / 8) (place / 8) e))
