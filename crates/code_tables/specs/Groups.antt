-- Texts of many bits in groups by their first bits, and the code word that those of a group begin with. Look-ups rest
-- on them; no table is defined by them.
use Rattle.std.specs.Prelude.{◌≡◌, ℕ, ◌<◌, ◌/◌, ◌==◌, ◌++◌, ◌∷◌, Bool, true, false, List, length, Option, Some, None, if◌then◌else◌, slice_index_or, replicate}
use Rattle.bit_texts.specs.Bits.{binary}
use Rattle.code_tables.specs.Codes.{Code, code_at, BeginsWith}
use Rattle.code_tables.specs.declared.table.Groups.{Groups}
use Rattle.code_tables.specs.declared.table.Groups.TheVariants.{ByZeros, OfSixBits}

abbrev pub group_count : Groups → ℕ
group_count ByZeros = 128
group_count OfSixBits = 64

-- The first bits of the texts in a group: by zeros, group 8z + b is z zeros, a 1 and the bits of b, and the last eight
-- are 15 zeros; of six bits, group i is the bits of i.
abbrev pub group : Groups → ℕ → List Bool
group ByZeros i = if i / 8 == 15 then replicate 15 false else replicate (i / 8) false ++ true ∷ binary 3 i
group OfSixBits i = binary 6 i

-- the place, if an entry stands there
abbrev pub entry_of : List Code → ℕ → Option ℕ
entry_of codes place = if (code_at codes place).0 == 0 then None else Some place

-- for each group, the place of the code word that its texts begin with
pub record Locates (groups : Groups) (places : List ℕ) (codes : List Code) : Type 0 where
  pub size : length places ≡ group_count groups
  pub each : (i : ℕ) (more : List Bool) → i < group_count groups → BeginsWith codes (group groups i ++ more) (entry_of codes (slice_index_or places i 0))
