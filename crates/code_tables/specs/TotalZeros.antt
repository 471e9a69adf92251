-- total_zeros (9.2.3, Tables 9-7 to 9-9).
use Rattle.std.specs.Prelude.{ℕ, ◌+◌, ◌-◌, ◌==◌, ◌||◌, List, [], ◌∷◌, Option, nat_lt, nat_le, if◌then◌else◌, take, slice_index_or}
use Rattle.code_tables.specs.Codes.{Code, code_at, present}

-- in a block of 15 or 16 levels, a row for each TotalCoeff from 1, with the code words of total_zeros from 0
abbrev pub total_zeros_rows : List (List Code)
total_zeros_rows =
    ((1, 1) ∷ (3, 3) ∷ (3, 2) ∷ (4, 3) ∷ (4, 2) ∷ (5, 3) ∷ (5, 2) ∷ (6, 3) ∷ (6, 2) ∷ (7, 3) ∷ (7, 2) ∷ (8, 3) ∷ (8, 2) ∷ (9, 3) ∷ (9, 2) ∷ (9, 1) ∷ []) ∷
    ((3, 7) ∷ (3, 6) ∷ (3, 5) ∷ (3, 4) ∷ (3, 3) ∷ (4, 5) ∷ (4, 4) ∷ (4, 3) ∷ (4, 2) ∷ (5, 3) ∷ (5, 2) ∷ (6, 3) ∷ (6, 2) ∷ (6, 1) ∷ (6, 0) ∷ []) ∷
    ((4, 5) ∷ (3, 7) ∷ (3, 6) ∷ (3, 5) ∷ (4, 4) ∷ (4, 3) ∷ (3, 4) ∷ (3, 3) ∷ (4, 2) ∷ (5, 3) ∷ (5, 2) ∷ (6, 1) ∷ (5, 1) ∷ (6, 0) ∷ []) ∷
    ((5, 3) ∷ (3, 7) ∷ (4, 5) ∷ (4, 4) ∷ (3, 6) ∷ (3, 5) ∷ (3, 4) ∷ (4, 3) ∷ (3, 3) ∷ (4, 2) ∷ (5, 2) ∷ (5, 1) ∷ (5, 0) ∷ []) ∷
    ((4, 5) ∷ (4, 4) ∷ (4, 3) ∷ (3, 7) ∷ (3, 6) ∷ (3, 5) ∷ (3, 4) ∷ (3, 3) ∷ (4, 2) ∷ (5, 1) ∷ (4, 1) ∷ (5, 0) ∷ []) ∷
    ((6, 1) ∷ (5, 1) ∷ (3, 7) ∷ (3, 6) ∷ (3, 5) ∷ (3, 4) ∷ (3, 3) ∷ (3, 2) ∷ (4, 1) ∷ (3, 1) ∷ (6, 0) ∷ []) ∷
    ((6, 1) ∷ (5, 1) ∷ (3, 5) ∷ (3, 4) ∷ (3, 3) ∷ (2, 3) ∷ (3, 2) ∷ (4, 1) ∷ (3, 1) ∷ (6, 0) ∷ []) ∷
    ((6, 1) ∷ (4, 1) ∷ (5, 1) ∷ (3, 3) ∷ (2, 3) ∷ (2, 2) ∷ (3, 2) ∷ (3, 1) ∷ (6, 0) ∷ []) ∷
    ((6, 1) ∷ (6, 0) ∷ (4, 1) ∷ (2, 3) ∷ (2, 2) ∷ (3, 1) ∷ (2, 1) ∷ (5, 1) ∷ []) ∷
    ((5, 1) ∷ (5, 0) ∷ (3, 1) ∷ (2, 3) ∷ (2, 2) ∷ (2, 1) ∷ (4, 1) ∷ []) ∷
    ((4, 0) ∷ (4, 1) ∷ (3, 1) ∷ (3, 2) ∷ (1, 1) ∷ (3, 3) ∷ []) ∷
    ((4, 0) ∷ (4, 1) ∷ (2, 1) ∷ (1, 1) ∷ (3, 1) ∷ []) ∷
    ((3, 0) ∷ (3, 1) ∷ (1, 1) ∷ (2, 1) ∷ []) ∷
    ((2, 0) ∷ (2, 1) ∷ (1, 1) ∷ []) ∷
    ((1, 0) ∷ (1, 1) ∷ []) ∷
    []

-- the same of chroma DC in 4:2:0
abbrev pub total_zeros_rows_dc : List (List Code)
total_zeros_rows_dc =
    ((1, 1) ∷ (2, 1) ∷ (3, 1) ∷ (3, 0) ∷ []) ∷
    ((1, 1) ∷ (2, 1) ∷ (2, 0) ∷ []) ∷
    ((1, 1) ∷ (1, 0) ∷ []) ∷
    []

-- The column of TotalCoeff in a block of at most max levels, as far as its zeros and levels fit the block. There is none
-- where TotalCoeff is 0 or max.
unfoldable pub total_zeros_list : ℕ → ℕ → List Code
total_zeros_list max total =
    if total == 0 || nat_le max total then []
    else take (max + 1 - total) (slice_index_or (if nat_lt 4 max then total_zeros_rows else total_zeros_rows_dc) (total - 1) [])

-- the code word of total_zeros
abbrev pub total_zeros_code : ℕ → ℕ → ℕ → Option Code
total_zeros_code max total zeros = present (code_at (total_zeros_list max total) zeros)
