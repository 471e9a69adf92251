-- run_before (9.2.3, Table 9-10).
use Rattle.std.specs.Prelude.{ℕ, ◌+◌, ◌-◌, ◌==◌, min, List, [], ◌∷◌, Option, if◌then◌else◌, take, slice_index_or}
use Rattle.code_tables.specs.Codes.{Code, code_at, present}

-- a row for each zerosLeft from 1, the last one for all above 6, with the code words of run_before from 0
abbrev pub run_before_rows : List (List Code)
run_before_rows =
    ((1, 1) ∷ (1, 0) ∷ []) ∷
    ((1, 1) ∷ (2, 1) ∷ (2, 0) ∷ []) ∷
    ((2, 3) ∷ (2, 2) ∷ (2, 1) ∷ (2, 0) ∷ []) ∷
    ((2, 3) ∷ (2, 2) ∷ (2, 1) ∷ (3, 1) ∷ (3, 0) ∷ []) ∷
    ((2, 3) ∷ (2, 2) ∷ (3, 3) ∷ (3, 2) ∷ (3, 1) ∷ (3, 0) ∷ []) ∷
    ((2, 3) ∷ (3, 0) ∷ (3, 1) ∷ (3, 3) ∷ (3, 2) ∷ (3, 5) ∷ (3, 4) ∷ []) ∷
    ((3, 7) ∷ (3, 6) ∷ (3, 5) ∷ (3, 4) ∷ (3, 3) ∷ (3, 2) ∷ (3, 1) ∷ (4, 1) ∷ (5, 1) ∷ (6, 1) ∷ (7, 1) ∷ (8, 1) ∷ (9, 1) ∷ (10, 1) ∷ (11, 1) ∷ []) ∷
    []

-- the column of zerosLeft, as far as a run fits the zeros that are left
unfoldable pub run_before_list : ℕ → List Code
run_before_list left = if left == 0 then [] else take (left + 1) (slice_index_or run_before_rows (min left 7 - 1) [])

-- the code word of run_before
abbrev pub run_before_code : ℕ → ℕ → Option Code
run_before_code left run = present (code_at (run_before_list left) run)
