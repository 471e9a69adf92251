-- Each printed table passes the test.
use Rattle.std.proofs.Common.{◌≡◌, ℕ, zero, suc, ◌+◌, ◌-◌, ◌<◌, ◌≤◌, ◌==◌, ◌||◌, ℤ, pos, negsuc, Bool, true, false, cond, List, [], ◌∷◌, ◌++◌, length, get_or, map, replicate, min, inl, inr, nat_lt, nat_le, take, refl, sym, ap, ◌∙◌, arith}
use Rattle.std.proofs.lemmas.Bool.{leb-true, cases_lt}
use Rattle.std.proofs.lemmas.List.{take-append-le, take_all}
use Rattle.bit_texts.specs.Bits.{binary}
use Rattle.code_tables.specs.Codes.{Code, IsCodeTable}
use Rattle.code_tables.specs.CoeffToken.{coeff_token_0, coeff_token_2, coeff_token_4, coeff_token_8, coeff_token_dc, coeff_token_list}
use Rattle.code_tables.specs.TotalZeros.{total_zeros_rows, total_zeros_rows_dc, total_zeros_list}
use Rattle.code_tables.specs.RunBefore.{run_before_rows, run_before_list}
use Rattle.code_tables.specs.declared.zeros.TheConstants.{TOTAL_ZEROS, TOTAL_ZEROS_DC}
use Rattle.code_tables.specs.declared.runs.TheConstants.{RUN_BEFORE}
use Rattle.code_tables.specs.Groups.{Locates}
use Rattle.code_tables.specs.declared.places.TheConstants.{PLACES_0, PLACES_2, PLACES_4, PLACES_8, PLACES_DC, PLACES_TOTAL_ZEROS, PLACES_TOTAL_ZEROS_DC, PLACES_RUN_BEFORE}
use Rattle.code_tables.specs.declared.table.Groups.TheVariants.{ByZeros, OfSixBits}
use Rattle.code_tables.proofs.Groups.{locates, Locates-from_test, Locates-take}
use Rattle.code_tables.proofs.CodeTables.{all_below, all_below-at, IsCodeTable-from_check, IsCodeTable-cond, IsCodeTable-nil, IsCodeTable-row, IsCodeTable-take}

pub IsCodeTable-0 : IsCodeTable coeff_token_0
unfolding binary
IsCodeTable-0 = IsCodeTable-from_check coeff_token_0 refl

pub IsCodeTable-2 : IsCodeTable coeff_token_2
unfolding binary
IsCodeTable-2 = IsCodeTable-from_check coeff_token_2 refl

pub IsCodeTable-4 : IsCodeTable coeff_token_4
unfolding binary
IsCodeTable-4 = IsCodeTable-from_check coeff_token_4 refl

pub IsCodeTable-8 : IsCodeTable coeff_token_8
unfolding binary
IsCodeTable-8 = IsCodeTable-from_check coeff_token_8 refl

pub IsCodeTable-DC : IsCodeTable coeff_token_dc
unfolding binary
IsCodeTable-DC = IsCodeTable-from_check coeff_token_dc refl

pub IsCodeTable-coeff_token : (nc : ℤ) → IsCodeTable (coeff_token_list nc)
unfolding coeff_token_list binary
IsCodeTable-coeff_token (negsuc n) = IsCodeTable-DC
IsCodeTable-coeff_token (pos n) =
    IsCodeTable-cond (nat_lt n 2) coeff_token_0 _ IsCodeTable-0
    (IsCodeTable-cond (nat_lt n 4) coeff_token_2 _ IsCodeTable-2
    (IsCodeTable-cond (nat_lt n 8) coeff_token_4 coeff_token_8 IsCodeTable-4 IsCodeTable-8))

IsCodeTable-zeros_row : (b : Bool) (i : ℕ) → IsCodeTable (get_or (cond b total_zeros_rows total_zeros_rows_dc) i [])
unfolding binary
IsCodeTable-zeros_row true i = IsCodeTable-row total_zeros_rows i refl
IsCodeTable-zeros_row false i = IsCodeTable-row total_zeros_rows_dc i refl

pub IsCodeTable-total_zeros : (max total : ℕ) → IsCodeTable (total_zeros_list max total)
unfolding total_zeros_list binary
IsCodeTable-total_zeros max total =
    IsCodeTable-cond (total == 0 || nat_le max total) [] _ IsCodeTable-nil
    (IsCodeTable-take (max + 1 - total) _ (IsCodeTable-zeros_row (nat_lt 4 max) (total - 1)))

IsCodeTable-run_before_row : (i : ℕ) → IsCodeTable (get_or run_before_rows i [])
unfolding binary
IsCodeTable-run_before_row i = IsCodeTable-row run_before_rows i refl

pub IsCodeTable-run_before : (left : ℕ) → IsCodeTable (run_before_list left)
unfolding run_before_list
IsCodeTable-run_before left =
    IsCodeTable-cond (left == 0) [] _ IsCodeTable-nil
    (IsCodeTable-take (left + 1) _ (IsCodeTable-run_before_row (min left 7 - 1)))

-- ---- the code words that groups of texts begin with

pub Locates-0 : Locates ByZeros PLACES_0 coeff_token_0
unfolding binary
Locates-0 = Locates-from_test ByZeros PLACES_0 coeff_token_0 refl

pub Locates-2 : Locates ByZeros PLACES_2 coeff_token_2
unfolding binary
Locates-2 = Locates-from_test ByZeros PLACES_2 coeff_token_2 refl

pub Locates-4 : Locates ByZeros PLACES_4 coeff_token_4
unfolding binary
Locates-4 = Locates-from_test ByZeros PLACES_4 coeff_token_4 refl

pub Locates-8 : Locates OfSixBits PLACES_8 coeff_token_8
unfolding binary
Locates-8 = Locates-from_test OfSixBits PLACES_8 coeff_token_8 refl

pub Locates-DC : Locates ByZeros PLACES_DC coeff_token_dc
unfolding binary
Locates-DC = Locates-from_test ByZeros PLACES_DC coeff_token_dc refl

abbrev rows_locate : List (List ℕ) → List (List Code) → ℕ → Bool
rows_locate places rows n = all_below (λ i. locates ByZeros (get_or places i []) (get_or rows i [])) n

Locates-row : (places : List (List ℕ)) (rows : List (List Code)) (n i : ℕ) → rows_locate places rows n ≡ true → i < n → Locates ByZeros (get_or places i []) (get_or rows i [])
Locates-row places rows n i h below =
    Locates-from_test ByZeros (get_or places i []) (get_or rows i []) (all_below-at (λ k. locates ByZeros (get_or places k []) (get_or rows k [])) n i h below)

-- ---- the arrays of the code have the printed rows, with absent entries up to their width

abbrev padded : ℕ → List Code → List Code
padded width row = row ++ replicate (width - length row) (0, 0)

-- as far as the printed row goes, the array's is the same
row_same : (width : ℕ) (rows : List (List Code)) (row end : ℕ) → end ≤ length (get_or rows row []) → take end (get_or (map (padded width) rows) row []) ≡ take end (get_or rows row [])
row_same width [] row end h = refl
row_same width (r ∷ rs) zero end h = take-append-le end r (replicate (width - length r) (0, 0)) h
row_same width (r ∷ rs) (suc row) end h = row_same width rs row end h

-- the lengths of the rows are at least these
abbrev are_long : List (List Code) → (ℕ → ℕ) → ℕ → Bool
are_long rows size n = all_below (λ row. nat_le (size row) (length (get_or rows row []))) n

long_at : (rows : List (List Code)) (size : ℕ → ℕ) (n row : ℕ) → are_long rows size n ≡ true → row < n → size row ≤ length (get_or rows row [])
long_at rows size n row h below = leb-true (size row) (length (get_or rows row [])) (all_below-at (λ k. nat_le (size k) (length (get_or rows k []))) n row h below)

pub total_zeros_same : (row end : ℕ) → row < 15 → end + row ≤ 16 → take end (get_or TOTAL_ZEROS row []) ≡ take end (get_or total_zeros_rows row [])
total_zeros_same row end h k = row_same 16 total_zeros_rows row end (omega (arith, k, long_at total_zeros_rows (λ i. 16 - i) 15 row refl h))

pub total_zeros_dc_same : (row end : ℕ) → row < 3 → end + row ≤ 4 → take end (get_or TOTAL_ZEROS_DC row []) ≡ take end (get_or total_zeros_rows_dc row [])
total_zeros_dc_same row end h k = row_same 4 total_zeros_rows_dc row end (omega (arith, k, long_at total_zeros_rows_dc (λ i. 4 - i) 3 row refl h))

pub run_before_same : (left row end : ℕ) → row ≡ min left 7 - 1 → end ≡ min left 14 + 1 → take end (get_or RUN_BEFORE row []) ≡ take (left + 1) (get_or run_before_rows row [])
run_before_same left row end r e = elim (cases_lt left 7) [
  | inl few ↦
      let size = long_at run_before_rows (λ i. i + 2) 7 row refl (omega arith) in
      row_same 15 run_before_rows row end (omega (arith, size)) ∙ ap (λ n. take n (get_or run_before_rows row [])) (omega arith)
  | inr many ↦
      let last : row ≡ 6 = omega arith in
      let size : length (get_or run_before_rows row []) ≡ 15 = ap (λ i. length (get_or run_before_rows i [])) last in
      row_same 15 run_before_rows row end (omega (arith, size)) ∙ elim (cases_lt left 14) [
        | inl some ↦ ap (λ n. take n (get_or run_before_rows row [])) (omega arith)
        | inr all ↦ take_all end (get_or run_before_rows row []) (omega (arith, size)) ∙ sym (take_all (left + 1) (get_or run_before_rows row []) (omega (arith, size)))
      ]
]

-- ---- what the look-ups of the code stand on

pub IsCodeTable-total_zeros_rows : (row end : ℕ) → row < 15 → end + row ≤ 16 → IsCodeTable (take end (get_or TOTAL_ZEROS row []))
IsCodeTable-total_zeros_rows row end h k = rw (total_zeros_same row end h k) (IsCodeTable-take end _ (IsCodeTable-zeros_row true row))

pub IsCodeTable-total_zeros_dc_rows : (row end : ℕ) → row < 3 → end + row ≤ 4 → IsCodeTable (take end (get_or TOTAL_ZEROS_DC row []))
IsCodeTable-total_zeros_dc_rows row end h k = rw (total_zeros_dc_same row end h k) (IsCodeTable-take end _ (IsCodeTable-zeros_row false row))

pub Locates-total_zeros : (row end : ℕ) → row < 15 → end + row ≤ 16 → Locates ByZeros (get_or PLACES_TOTAL_ZEROS row []) (take end (get_or TOTAL_ZEROS row []))
unfolding binary
Locates-total_zeros row end h k = rw (total_zeros_same row end h k)
    (Locates-take end ByZeros (get_or PLACES_TOTAL_ZEROS row []) (get_or total_zeros_rows row []) (IsCodeTable-zeros_row true row) (Locates-row PLACES_TOTAL_ZEROS total_zeros_rows 15 row refl h))

pub Locates-total_zeros_dc : (row end : ℕ) → row < 3 → end + row ≤ 4 → Locates ByZeros (get_or PLACES_TOTAL_ZEROS_DC row []) (take end (get_or TOTAL_ZEROS_DC row []))
unfolding binary
Locates-total_zeros_dc row end h k = rw (total_zeros_dc_same row end h k)
    (Locates-take end ByZeros (get_or PLACES_TOTAL_ZEROS_DC row []) (get_or total_zeros_rows_dc row []) (IsCodeTable-zeros_row false row) (Locates-row PLACES_TOTAL_ZEROS_DC total_zeros_rows_dc 3 row refl h))

pub IsCodeTable-run_before_rows : (left row end : ℕ) → row ≡ min left 7 - 1 → end ≡ min left 14 + 1 → IsCodeTable (take end (get_or RUN_BEFORE row []))
IsCodeTable-run_before_rows left row end r e = rw (run_before_same left row end r e) (IsCodeTable-take (left + 1) _ (IsCodeTable-run_before_row row))

pub Locates-run_before : (left row end : ℕ) → row ≡ min left 7 - 1 → end ≡ min left 14 + 1 → Locates ByZeros (get_or PLACES_RUN_BEFORE row []) (take end (get_or RUN_BEFORE row []))
unfolding binary
Locates-run_before left row end r e = rw (run_before_same left row end r e)
    (Locates-take (left + 1) ByZeros (get_or PLACES_RUN_BEFORE row []) (get_or run_before_rows row []) (IsCodeTable-run_before_row row) (Locates-row PLACES_RUN_BEFORE run_before_rows 7 row refl (omega arith)))
