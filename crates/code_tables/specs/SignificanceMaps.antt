-- The ctxIdxInc of significant_coeff_flag and last_significant_coeff_flag in 8x8 blocks of luma (9.3.3.1.3, Table 9-43),
-- by the place in the block.
use Rattle.std.specs.Prelude.{ℕ, Bool, true, false, List, [], ◌∷◌}

-- of significant_coeff_flag: in a field macroblock, or a frame one
abbrev pub significance_list : Bool → List ℕ
significance_list true =
    0 ∷ 1 ∷ 1 ∷ 2 ∷ 2 ∷ 3 ∷ 3 ∷ 4 ∷ 5 ∷ 6 ∷ 7 ∷ 7 ∷ 7 ∷ 8 ∷ 4 ∷ 5 ∷
    6 ∷ 9 ∷ 10 ∷ 10 ∷ 8 ∷ 11 ∷ 12 ∷ 11 ∷ 9 ∷ 9 ∷ 10 ∷ 10 ∷ 8 ∷ 11 ∷ 12 ∷ 11 ∷
    9 ∷ 9 ∷ 10 ∷ 10 ∷ 8 ∷ 11 ∷ 12 ∷ 11 ∷ 9 ∷ 9 ∷ 10 ∷ 10 ∷ 8 ∷ 13 ∷ 13 ∷ 9 ∷
    9 ∷ 10 ∷ 10 ∷ 8 ∷ 13 ∷ 13 ∷ 9 ∷ 9 ∷ 10 ∷ 10 ∷ 14 ∷ 14 ∷ 14 ∷ 14 ∷ 14 ∷
    []
significance_list false =
    0 ∷ 1 ∷ 2 ∷ 3 ∷ 4 ∷ 5 ∷ 5 ∷ 4 ∷ 4 ∷ 3 ∷ 3 ∷ 4 ∷ 4 ∷ 4 ∷ 5 ∷ 5 ∷
    4 ∷ 4 ∷ 4 ∷ 4 ∷ 3 ∷ 3 ∷ 6 ∷ 7 ∷ 7 ∷ 7 ∷ 8 ∷ 9 ∷ 10 ∷ 9 ∷ 8 ∷ 7 ∷
    7 ∷ 6 ∷ 11 ∷ 12 ∷ 13 ∷ 11 ∷ 6 ∷ 7 ∷ 8 ∷ 9 ∷ 14 ∷ 10 ∷ 9 ∷ 8 ∷ 6 ∷ 11 ∷
    12 ∷ 13 ∷ 11 ∷ 6 ∷ 9 ∷ 14 ∷ 10 ∷ 9 ∷ 11 ∷ 12 ∷ 13 ∷ 11 ∷ 14 ∷ 10 ∷ 12 ∷
    []

-- of last_significant_coeff_flag
abbrev pub last_list : List ℕ
last_list =
    0 ∷ 1 ∷ 1 ∷ 1 ∷ 1 ∷ 1 ∷ 1 ∷ 1 ∷ 1 ∷ 1 ∷ 1 ∷ 1 ∷ 1 ∷ 1 ∷ 1 ∷ 1 ∷
    2 ∷ 2 ∷ 2 ∷ 2 ∷ 2 ∷ 2 ∷ 2 ∷ 2 ∷ 2 ∷ 2 ∷ 2 ∷ 2 ∷ 2 ∷ 2 ∷ 2 ∷ 2 ∷
    3 ∷ 3 ∷ 3 ∷ 3 ∷ 3 ∷ 3 ∷ 3 ∷ 3 ∷ 4 ∷ 4 ∷ 4 ∷ 4 ∷ 4 ∷ 4 ∷ 4 ∷ 4 ∷
    5 ∷ 5 ∷ 5 ∷ 5 ∷ 6 ∷ 6 ∷ 6 ∷ 6 ∷ 7 ∷ 7 ∷ 7 ∷ 7 ∷ 8 ∷ 8 ∷ 8 ∷
    []
