-- A text is that of one table, or fails at one place.
use Rattle.std.proofs.Common.{◌≡◌, ◌⊎◌, ◌∙◌, sym, ap, subst, refl, inl, inr, ℕ, zero, suc, ◌+◌, ◌*◌, ◌/◌, ◌%◌, ◌<◌, ◌≤◌, Bool, true, false, nat_le, ℤ, pos, List, [], ◌∷◌, map, length, get_or, below_more, arith}
use Rattle.std.specs.Prelude.{Option, Some, None, IsSome, is_some, All, codes, slice_get}
use Rattle.std.specs.Str.{bytes_eq}
use Rattle.std.specs.Bool.{Decides}
use Rattle.std.specs.Option.{option_and_then, unwrap_or}
use Rattle.std.proofs.lemmas.Bool.{leb-true, leb-false}
use Rattle.std.proofs.lemmas.Slice.Eq.{bytes_eq-Decides}
use Rattle.std.proofs.lemmas.Option.{slice_get_cases}
use Rattle.std.proofs.lemmas.List.{ext_get_or}
use Rattle.std.proofs.lemmas.List.FromFn.{get_or-map-range_with_len, length-map-range_with_len}
use Rattle.std.specs.List.{range_with_len}
use Rattle.std.proofs.Math.Nat.{ℕ_set}
use Rattle.std.proofs.Math.Path.{fun_ext}
use Rattle.init_table.specs.InitTable.{pair_of}
use Rattle.init_table.specs.TableText.{IsFlat, Writes, IsTableText, IsTableOf, FailsAt, number_of, number_at, words}
use Rattle.init_table.specs.declared.table.InitTable.{InitTable}

-- the text is a table's
abbrev pub IsTable : List ℕ → Type 0
IsTable text = (table : InitTable) × IsTableOf text table

-- ## Not both, and at one place

never : (x : Option ℤ) → IsSome x → x ≡ None → ⊥
never x some none = absurd (let e : is_some x ≡ false = ap is_some none in cc)

some-of : (x : Option ℤ) (value : ℤ) → x ≡ Some value → IsSome x
some-of x value e = ap is_some e

-- the numbers of a table's text
has-number : (text : List ℕ) (pairs : ℕ → ℕ → ℤ × ℤ) → Writes text pairs → (place : ℕ) → place < 3680 → IsSome (number_at text place)
has-number text pairs w place h = by (place % 2) refl
  where
    ctx : ℕ
    ctx = place / 8

    column : ℕ
    column = place / 2 % 4

    by : (r : ℕ) → place % 2 ≡ r → IsSome (number_at text place)
    by zero e =
        let at : 8 * ctx + 2 * column ≡ place = omega (arith, e) in
        some-of (number_at text place) (pairs ctx column).0 (ap (number_at text) (sym at) ∙ w.m_is ctx column (omega (arith, h)) (omega arith))
    by (suc zero) e =
        let at : 8 * ctx + 2 * column + 1 ≡ place = omega (arith, e) in
        some-of (number_at text place) (pairs ctx column).1 (ap (number_at text) (sym at) ∙ w.n_is ctx column (omega (arith, h)) (omega arith))
    by (suc (suc r)) e = absurd (omega (arith, e))

pub table-stands : (text : List ℕ) (at : ℕ) → IsTable text → FailsAt text at → ⊥
table-stands text at t f = by t.1.pairs f.no_number
  where
    by : IsTableText text (pair_of t.0) → ((at < 3680) × (number_at text at ≡ None)) ⊎ ((at ≡ 3680) × (3680 < length (words text))) → ⊥
    by (inl flat) none = f.not_flat flat.0
    by (inr w) (inl none) = never (number_at text at) (has-number text (pair_of t.0) w at none.0) none.1
    by (inr w) (inr more) = omega (arith, more.1, w.no_more)

not-before : (text : List ℕ) (a b : ℕ) → FailsAt text a → FailsAt text b → b ≤ a
not-before text a b f g = by (nat_le b a) refl f.no_number g.no_number
  where
    by : (t : Bool) → nat_le b a ≡ t → ((a < 3680) × (number_at text a ≡ None)) ⊎ ((a ≡ 3680) × (3680 < length (words text)))
        → ((b < 3680) × (number_at text b ≡ None)) ⊎ ((b ≡ 3680) × (3680 < length (words text))) → b ≤ a
    by true e x y = leb-true b a e
    by false e (inl none) y = absurd (never (number_at text a) (g.numbers_before a (leb-false b a e)) none.1)
    by false e (inr more) (inl none) = omega (arith, more.0, none.0)
    by false e (inr more) (inr most) = omega (arith, more.0, most.0)

pub fails-once : (text : List ℕ) (a b : ℕ) → FailsAt text a → FailsAt text b → a ≡ b
fails-once text a b f g = omega (arith, not-before text a b f g, not-before text b a g f)

-- ## One of both

flat-or_not : (ws : List (List ℕ)) → (ws ≡ codes "flat" ∷ []) ⊎ (ws ≡ codes "flat" ∷ [] → ⊥)
flat-or_not [] = inr (λ e. cc)
flat-or_not (word ∷ other ∷ ws) = inr (λ e. cc)
flat-or_not (word ∷ []) = by (bytes_eq word (codes "flat")) (bytes_eq-Decides word (codes "flat"))
  where
    by : (t : Bool) → Decides t (word ≡ codes "flat") → (word ∷ [] ≡ codes "flat" ∷ []) ⊎ (word ∷ [] ≡ codes "flat" ∷ [] → ⊥)
    by true d = inl (ap (λ w. w ∷ []) (d.0 refl))
    by false d = inr (λ e. let same : word ≡ codes "flat" = cc in absurd (let bad : false ≡ true = d.1 same in cc))

-- each of so many places has a number
abbrev Numbered : List ℕ → ℕ → Type 0
Numbered text n = (place : ℕ) → place < n → IsSome (number_at text place)

-- the first of so many places without a number
abbrev FirstGap : List ℕ → ℕ → Type 0
FirstGap text n = (at : ℕ) × (at < n) × Numbered text at × (number_at text at ≡ None)

first-gap : (text : List ℕ) (n : ℕ) → Numbered text n ⊎ FirstGap text n
first-gap text zero = inl (λ place h. absurd (omega (arith, h)))
first-gap text (suc n) = by (first-gap text n) (number_at text n) refl
  where
    by : Numbered text n ⊎ FirstGap text n → (x : Option ℤ) → number_at text n ≡ x → Numbered text (suc n) ⊎ FirstGap text (suc n)
    by (inr first) x e = inr (first.0, omega (arith, first.1), first.2, first.3)
    by (inl all) None e = inr (n, omega arith, all, e)
    by (inl all) (Some value) e = inl (λ place h. below_more (λ k. IsSome (number_at text k)) n all (some-of (number_at text n) value e) place (omega (arith, h)))

-- a text with a number at each place of a table
abbrev value_at : List ℕ → ℕ → ℤ
value_at text place = unwrap_or (number_at text place) (pos 0)

is-value : (x : Option ℤ) → IsSome x → x ≡ Some (unwrap_or x (pos 0))
is-value None h = absurd (let bad : false ≡ true = h in cc)
is-value (Some value) h = refl

within : (text : List ℕ) (place : ℕ) → IsSome (number_at text place) → place < length (words text)
within text place h = by (slice_get_cases (words text) place).1
  where
    by : ((x : List ℕ) × (place < length (words text)) × (slice_get (words text) place ≡ Some x) × (get_or (words text) place x ≡ x)) ⊎ ((length (words text) ≤ place) × (slice_get (words text) place ≡ None)) → place < length (words text)
    by (inl w) = w.1
    by (inr w) = absurd (never (number_at text place) h (ap (option_and_then number_of) w.1))

writes : (text : List ℕ) → Numbered text 3680 → length (words text) ≤ 3680 → Writes text (λ ctx column. (value_at text (8 * ctx + 2 * column), value_at text (8 * ctx + 2 * column + 1)))
writes text all short = record {
  m_is = λ ctx column h k. is-value (number_at text (8 * ctx + 2 * column)) (all (8 * ctx + 2 * column) (omega (arith, h, k)));
  n_is = λ ctx column h k. is-value (number_at text (8 * ctx + 2 * column + 1)) (all (8 * ctx + 2 * column + 1) (omega (arith, h, k)));
  no_more = let last = within text 3679 (all 3679 (omega arith)) in omega (arith, last, short);
}

-- the table of these pairs
row_of : (ℕ → ℕ → ℤ × ℤ) → ℕ → List (ℤ × ℤ)
row_of pairs ctx = map (pairs ctx) (range_with_len 0 4)

rows_of : (ℕ → ℕ → ℤ × ℤ) → ℕ → List (List (ℤ × ℤ))
rows_of pairs n = map (row_of pairs) (range_with_len 0 n)

length-rows : (pairs : ℕ → ℕ → ℤ × ℤ) (n : ℕ) → length (rows_of pairs n) ≡ n
unfolding rows_of
length-rows pairs n = length-map-range_with_len (row_of pairs) 0 n

row-at : (pairs : ℕ → ℕ → ℤ × ℤ) (n ctx : ℕ) (d : List (ℤ × ℤ)) → ctx < n → get_or (rows_of pairs n) ctx d ≡ row_of pairs ctx
unfolding rows_of
row-at pairs n ctx d h = get_or-map-range_with_len (row_of pairs) 0 n ctx ctx d h (omega arith)

length-row : (pairs : ℕ → ℕ → ℤ × ℤ) (ctx : ℕ) → length (row_of pairs ctx) ≡ 4
unfolding row_of
length-row pairs ctx = length-map-range_with_len (pairs ctx) 0 4

pair-at : (pairs : ℕ → ℕ → ℤ × ℤ) (ctx column : ℕ) (d : ℤ × ℤ) → column < 4 → get_or (row_of pairs ctx) column d ≡ pairs ctx column
unfolding row_of
pair-at pairs ctx column d h = get_or-map-range_with_len (pairs ctx) 0 4 column column d h (omega arith)

four-columns : (pairs : ℕ → ℕ → ℤ × ℤ) (n : ℕ) → All (λ row. length row ≡ 4) (rows_of pairs n)
four-columns pairs n = λ ctx d h. ap length (row-at pairs n ctx d (omega (arith, h, length-rows pairs n))) ∙ length-row pairs ctx

table_with : (ℕ → ℕ → ℤ × ℤ) → InitTable
table_with pairs = record { pairs = rows_of pairs 460; columns = four-columns pairs 460 }

pairs-of : (pairs : ℕ → ℕ → ℤ × ℤ) (ctx column : ℕ) → ctx < 460 → column < 4 → pair_of (table_with pairs) ctx column ≡ pairs ctx column
unfolding table_with
pairs-of pairs ctx column h k = ap (λ row. get_or row column (pos 0, pos 0)) (row-at pairs 460 ctx [] h) ∙ pair-at pairs ctx column (pos 0, pos 0) k

table-of : (text : List ℕ) (pairs : ℕ → ℕ → ℤ × ℤ) → IsTableText text pairs → IsTable text
unfolding table_with
table-of text pairs is = (table_with pairs, record { pairs = by is; contexts = length-rows pairs 460; columns = four-columns pairs 460 })
  where
    at : (ctx column : ℕ) → ctx < 460 → column < 4 → pairs ctx column ≡ pair_of (table_with pairs) ctx column
    at ctx column h k = sym (pairs-of pairs ctx column h k)

    by : IsTableText text pairs → IsTableText text (pair_of (table_with pairs))
    by (inl flat) = inl (flat.0, λ ctx column h k. pairs-of pairs ctx column h k ∙ flat.1 ctx column h k)
    by (inr w) = inr record {
      m_is = λ ctx column h k. w.m_is ctx column h k ∙ ap (λ p. Some p.0) (at ctx column h k);
      n_is = λ ctx column h k. w.n_is ctx column h k ∙ ap (λ p. Some p.1) (at ctx column h k);
      no_more = w.no_more;
    }

pub table-or_fails : (text : List ℕ) → IsTable text ⊎ ((at : ℕ) × FailsAt text at)
table-or_fails text = by (flat-or_not (words text))
  where
    ends : (IsFlat text → ⊥) → Numbered text 3680 → (t : Bool) → nat_le (length (words text)) 3680 ≡ t → IsTable text ⊎ ((at : ℕ) × FailsAt text at)
    ends flat all true e = inl (table-of text _ (inr (writes text all (leb-true (length (words text)) 3680 e))))
    ends flat all false e = inr (3680, record { not_flat = flat; numbers_before = all; no_number = inr (refl, leb-false (length (words text)) 3680 e) })

    numbers : (IsFlat text → ⊥) → Numbered text 3680 ⊎ FirstGap text 3680 → IsTable text ⊎ ((at : ℕ) × FailsAt text at)
    numbers flat (inl all) = ends flat all (nat_le (length (words text)) 3680) refl
    numbers flat (inr first) = inr (first.0, record { not_flat = flat; numbers_before = first.2; no_number = inl (first.1, first.3) })

    by : IsFlat text ⊎ (IsFlat text → ⊥) → IsTable text ⊎ ((at : ℕ) × FailsAt text at)
    by (inl flat) = inl (table-of text (λ ctx column. (pos 0, pos 64)) (inl (flat, λ ctx column h k. refl)))
    by (inr flat) = numbers flat (first-gap text 3680)

-- ## One table

same-pair : (p q : ℤ × ℤ) → Some p.0 ≡ Some q.0 → Some p.1 ≡ Some q.1 → p ≡ q
same-pair p q e f =
    let m : p.0 ≡ q.0 = cc in
    let n : p.1 ≡ q.1 = cc in
    ap (λ x. let pair : ℤ × ℤ = (x, p.1) in pair) m ∙ ap (λ x. let pair : ℤ × ℤ = (q.0, x) in pair) n

not-both : (text : List ℕ) → IsFlat text → length (words text) ≡ 3680 → ⊥
not-both text flat many = omega (arith, ap length flat, many)

same-pairs : (text : List ℕ) (p q : ℕ → ℕ → ℤ × ℤ) → IsTableText text p → IsTableText text q → (ctx column : ℕ) → ctx < 460 → column < 4 → p ctx column ≡ q ctx column
same-pairs text p q (inl f) (inl g) ctx column h k = f.1 ctx column h k ∙ sym (g.1 ctx column h k)
same-pairs text p q (inl f) (inr w) ctx column h k = absurd (not-both text f.0 w.no_more)
same-pairs text p q (inr v) (inl g) ctx column h k = absurd (not-both text g.0 v.no_more)
same-pairs text p q (inr v) (inr w) ctx column h k =
    same-pair (p ctx column) (q ctx column) (sym (v.m_is ctx column h k) ∙ w.m_is ctx column h k) (sym (v.n_is ctx column h k) ∙ w.n_is ctx column h k)

same-rows : (text : List ℕ) (a b : InitTable) → IsTableOf text a → IsTableOf text b → a.pairs ≡ b.pairs
same-rows text a b x y = ext_get_or [] a.pairs b.pairs (x.contexts ∙ sym y.contexts) row
  where
    row : (ctx : ℕ) → ctx < length a.pairs → get_or a.pairs ctx [] ≡ get_or b.pairs ctx []
    row ctx h =
        let here : ctx < 460 = omega (arith, h, x.contexts) in
        let four : length (get_or a.pairs ctx []) ≡ 4 = x.columns ctx [] h in
        let also : length (get_or b.pairs ctx []) ≡ 4 = y.columns ctx [] (omega (arith, here, y.contexts)) in
        ext_get_or (pos 0, pos 0) (get_or a.pairs ctx []) (get_or b.pairs ctx []) (four ∙ sym also)
        (λ column k. same-pairs text (pair_of a) (pair_of b) x.pairs y.pairs ctx column here (omega (arith, k, four)))

-- that each context has four columns has one proof
columns-once : (rows : List (List (ℤ × ℤ))) (p q : All (λ row. length row ≡ 4) rows) → p ≡ q
columns-once rows p q = fun_ext (λ ctx. fun_ext (λ d. fun_ext (λ h. ℕ_set (length (get_or rows ctx d)) 4 (p ctx d h) (q ctx d h))))

same_table : (a : InitTable) (rows : List (List (ℤ × ℤ))) → a.pairs ≡ rows → (columns : All (λ row. length row ≡ 4) rows) → a ≡ record { pairs = rows; columns = columns }
same_table a rows e =
    let P : List (List (ℤ × ℤ)) → Type 0 = λ v. (columns : All (λ row. length row ≡ 4) v) → a ≡ record { pairs = v; columns = columns } in
    subst P e (λ columns. ap (λ c. let table : InitTable = record { pairs = a.pairs; columns = c } in table) (columns-once a.pairs a.columns columns))

pub one-table : (text : List ℕ) (a b : InitTable) → IsTableOf text a → IsTableOf text b → a ≡ b
one-table text a b x y = same_table a b.pairs (same-rows text a b x y) b.columns
