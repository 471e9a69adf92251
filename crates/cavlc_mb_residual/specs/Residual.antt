-- The residual of a macroblock: which blocks are sent, in what order, and with what nC (7.3.5.3).
use Rattle.std.specs.Prelude.{◌≡◌, ℕ, ◌-◌, ◌/◌, ℤ, pos, Bool, List, [], ◌∷◌, ◌++◌, length, take, drop, replicate}
use Rattle.bit_texts.specs.Bits.{bit}
use Rattle.bit_texts.specs.Texts.{IsWhen, when_text, AreTurns, turns_text}
use Rattle.cavlc_residual.specs.Block.{total_coeff, block_text, IsBlock}
use Rattle.mb_neighbours.specs.declared.place.At.TheVariants.{Luma4, Chroma4}
use Rattle.cavlc_mb_residual.specs.declared.counts.Sides.{Sides}
use Rattle.cavlc_mb_residual.specs.Counts.{nC}

-- A list of levels is sent where `coded` holds, and else they are 0.
abbrev pub IsList : Bool → ℕ → ℕ → List ℤ → Type 0
IsList coded max bound levels = IsWhen coded (replicate max (pos 0)) (IsBlock max bound) levels

abbrev pub list_text : Bool → ℤ → List ℤ → List Bool
list_text coded nc levels = when_text coded (block_text nc) levels

-- the sixteen places of a luma block: the levels of its list, and 0 behind them
pub record IsSixteen (coded : Bool) (max bound : ℕ) (block : List ℤ) : Type 0 where
  pub levels : IsList coded max bound (take max block)
  pub others : drop max block ≡ replicate (16 - max) (pos 0)

-- the counts of the blocks so far, after one more
abbrev pub counted : List ℕ → List ℤ → List ℕ
counted counts block = counts ++ total_coeff block ∷ []

-- ---- the luma blocks, one after another: those of quarter q are sent where bit q of the pattern is 1

abbrev pub is_coded : ℕ → List ℕ → Bool
is_coded luma counts = bit luma (length counts / 4)

abbrev pub IsLumaBlock : ℕ → ℕ → ℕ → List ℕ → List ℤ → Type 0
IsLumaBlock luma max bound counts block = IsSixteen (is_coded luma counts) max bound block

abbrev pub luma_block_text : Sides → ℕ → ℕ → List ℕ → List ℤ → List Bool
luma_block_text sides luma max counts block = list_text (is_coded luma counts) (pos (nC sides counts (Luma4 (length counts)))) (take max block)

abbrev pub AreLumaBlocks : ℕ → ℕ → ℕ → List (List ℤ) → Type 0
AreLumaBlocks luma max bound blocks = AreTurns (IsLumaBlock luma max bound) counted 16 [] blocks

abbrev pub luma_text : Sides → ℕ → ℕ → List (List ℤ) → List Bool
luma_text sides luma max blocks = turns_text (luma_block_text sides luma max) counted [] blocks

-- ---- the AC blocks of a chroma component

abbrev pub IsChromaBlock : Bool → ℕ → List ℕ → List ℤ → Type 0
IsChromaBlock coded bound counts block = IsList coded 15 bound block

abbrev pub chroma_block_text : Sides → Bool → List ℕ → List ℤ → List Bool
chroma_block_text sides coded counts block = list_text coded (pos (nC sides counts (Chroma4 (length counts)))) block

abbrev pub AreChromaBlocks : Bool → ℕ → List (List ℤ) → Type 0
AreChromaBlocks coded bound blocks = AreTurns (IsChromaBlock coded bound) counted 4 [] blocks

abbrev pub chroma_text : Sides → Bool → List (List ℤ) → List Bool
chroma_text sides coded blocks = turns_text (chroma_block_text sides coded) counted [] blocks
