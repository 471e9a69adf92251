use Rattle.std.specs.Prelude.{◌≡◌, ◌⊎◌, ℕ, zero, suc, ◌+◌, ◌-◌, ◌*◌, ◌≤◌, ◌==◌, ◌&&◌, ℤ, pos, negsuc, Bool, true, false, List, [], ◌∷◌, ◌++◌, map, take, drop, length, reverse, sum, filter, nat_lt, ◌||◌, if◌then◌else◌}
use Rattle.std.specs.List.{AllByRecursion}
use Rattle.code_tables.specs.Codes.{word_at}
use Rattle.code_tables.specs.CoeffToken.{coeff_token_list}
use Rattle.code_tables.specs.TotalZeros.{total_zeros_list}
use Rattle.code_tables.specs.RunBefore.{run_before_list}
use Rattle.cavlc_residual.specs.Level.{level_word}
use Rattle.cavlc_residual.specs.Coefficients.{magnitude, is_minus, code_of, next_suffix_length, coefficients_text}

-- A block is a list of levels in scan order. Its text goes from the highest frequency down (7.3.5.3.2).

-- Chroma DC in 4:2:0, which nC -1 stands for, has 4 levels, and any other block 15 or 16. No other negative nC is in use.
abbrev pub IsShape : ℤ → ℕ → Type 0
IsShape (negsuc n) max = max ≡ 4
IsShape (pos n) max = (max ≡ 15) ⊎ (max ≡ 16)

abbrev pub is_nonzero : ℤ → Bool
is_nonzero (pos n) = nat_lt 0 n
is_nonzero (negsuc n) = true

abbrev pub is_one : ℤ → Bool
is_one (pos n) = n == 1
is_one (negsuc n) = n == 0

-- TotalCoeff: how many levels aren't 0
abbrev pub total_coeff : List ℤ → ℕ
total_coeff levels = length (filter is_nonzero levels)

-- how many zeros stand at the front
abbrev pub leading_zeros : List ℤ → ℕ
leading_zeros [] = 0
leading_zeros (l ∷ ls) = if is_nonzero l then 0 else leading_zeros ls + 1

-- run_before of each level other than 0: the zeros right behind it
abbrev pub runs_of : List ℤ → List ℕ
runs_of [] = []
runs_of (l ∷ ls) = if is_nonzero l then leading_zeros ls ∷ runs_of ls else runs_of ls

-- how many levels of magnitude 1 stand at the front, at most n
abbrev pub ones_within : ℕ → List ℤ → ℕ
ones_within zero ls = 0
ones_within (suc n) [] = 0
ones_within (suc n) (l ∷ ls) = if is_one l then suc (ones_within n ls) else 0

abbrev pub trailing_ones : List ℤ → ℕ
trailing_ones ls = ones_within 3 ls

-- suffixLength of the first level that is no trailing one
abbrev pub first_suffix_length : ℕ → ℕ → ℕ
first_suffix_length total ones = if nat_lt 10 total && nat_lt ones 3 then 1 else 0

-- what is taken off its levelCode
abbrev pub first_extra : ℕ → ℕ
first_extra ones = if nat_lt ones 3 then 2 else 0

-- the signs of the trailing ones, and the other levels
abbrev pub levels_text : List ℤ → List Bool
levels_text ls =
    let ones = trailing_ones ls in
    map is_minus (take ones ls) ++ coefficients_text (first_suffix_length (length ls) ones) (first_extra ones) (drop ones ls)

-- The texts of run_before where so many zeros are left. That of the last level isn't sent.
abbrev pub runs_text : ℕ → List ℕ → List Bool
runs_text left [] = []
runs_text left (r ∷ []) = []
runs_text left (r ∷ q ∷ rs) = word_at (run_before_list left) r ++ runs_text (left - r) (q ∷ rs)

-- coeff_token, the levels ls other than 0, total_zeros, and the runs of zeros rs behind them. An absent code word has no
-- bits: no total_zeros stands where TotalCoeff is 0 or max, and no run_before where no zeros are left.
abbrev pub parts_text : ℤ → ℕ → List ℤ → List ℕ → List Bool
parts_text nc max ls rs =
    word_at (coeff_token_list nc) (4 * length ls + trailing_ones ls)
    ++ (levels_text ls ++ (word_at (total_zeros_list max (length ls)) (sum rs) ++ runs_text (sum rs) rs))

-- the text of a block
abbrev pub block_text : ℤ → List ℤ → List Bool
block_text nc levels = parts_text nc (length levels) (filter is_nonzero (reverse levels)) (runs_of (reverse levels))

-- Some level needs a level_prefix above the bound.
abbrev pub is_above : ℕ → ℕ → ℕ → List ℤ → Bool
is_above bound s extra [] = false
is_above bound s extra (l ∷ ls) = nat_lt bound (level_word s (code_of l - extra)).0 || is_above bound (next_suffix_length s l) 0 ls

abbrev pub levels_above : ℕ → List ℤ → Bool
levels_above bound ls = let ones = trailing_ones ls in is_above bound (first_suffix_length (length ls) ones) (first_extra ones) (drop ones ls)

abbrev pub is_beyond : ℕ → List ℤ → Bool
is_beyond bound levels = levels_above bound (filter is_nonzero (reverse levels))

-- a block of max levels in range, whose text has no level_prefix above the bound
pub record IsBlock (max bound : ℕ) (levels : List ℤ) : Type 0 where
  pub size : length levels ≡ max
  pub small : AllByRecursion (λ l. magnitude l ≤ 65535) levels
  pub within : is_beyond bound levels ≡ false
