use Rattle.std.specs.Prelude.{◌≡◌, ℕ, ◌+◌, ◌-◌, ◌*◌, ◌<◌, ◌≤◌, ℤ, pos, Bool, true, List, [], ◌∷◌, ◌++◌, length, drop, replicate, sum, Option, Some, None}
use Rattle.bit_texts.specs.Texts.{Reads}
use Rattle.std.specs.List.{AllByRecursion}
use Rattle.code_tables.specs.Codes.{IsEntry, word_at}
use Rattle.code_tables.specs.CoeffToken.{coeff_token_list}
use Rattle.cavlc_residual.specs.Coefficients.{AreCoefficients}
use Rattle.cavlc_residual.specs.Block.{is_one, trailing_ones, first_suffix_length, first_extra, runs_text}

-- What the parts of a block's text are read as.

-- TotalCoeff and TrailingOnes of a block of max levels
abbrev pub IsToken : ℤ → ℕ → ℕ × ℕ → Type 0
IsToken nc max t = (t.0 ≤ max) × (t.1 < 4) × IsEntry (coeff_token_list nc) (4 * t.0 + t.1)

abbrev pub token_text : ℤ → ℕ × ℕ → List Bool
token_text nc t = word_at (coeff_token_list nc) (4 * t.0 + t.1)

-- trailing ones
abbrev pub AreOnes : ℕ → List ℤ → Type 0
AreOnes count ls = (length ls ≡ count) × AllByRecursion (λ l. is_one l ≡ true) ls

-- the levels other than 0, of which the token has told
pub record AreLevels (token : ℕ × ℕ) (bound : ℕ) (ls : List ℤ) : Type 0 where
  pub count : length ls ≡ token.0
  pub ones : trailing_ones ls ≡ token.1
  pub others : AreCoefficients bound (first_suffix_length token.0 token.1) (first_extra token.1) (drop token.1 ls)

-- Levels other than 0 and the runs of zeros behind them, in scan order.
abbrev pub scan_of : List ℤ → List ℕ → List ℤ
scan_of (l ∷ ls) (r ∷ rs) = scan_of ls rs ++ (replicate r (pos 0) ++ l ∷ [])
scan_of [] rs = []
scan_of (l ∷ ls) [] = []

-- What was read of the runs behind the levels ls, which have so many zeros between and below them, and the block of `size`
-- levels in which they then stand.
abbrev pub ReadsPlaced : List ℤ → ℕ → ℕ → List Bool → Option (List ℤ) → List Bool → Type 0
ReadsPlaced ls zeros size left None rest = Reads (λ rs. (length rs ≡ length ls) × (sum rs ≡ zeros)) (runs_text zeros) left None rest
ReadsPlaced ls zeros size left (Some block) rest =
    (rs : List ℕ) × Reads (λ rs. (length rs ≡ length ls) × (sum rs ≡ zeros)) (runs_text zeros) left (Some rs) rest
    × (block ≡ scan_of ls rs ++ replicate (size - (length ls + zeros)) (pos 0))
