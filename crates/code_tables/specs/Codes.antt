-- Tables of code words.
use Rattle.std.specs.Prelude.{◌≡◌, ◌≢◌, ℕ, ◌<◌, ◌≤◌, ◌^◌, ◌==◌, ◌-◌, ◌++◌, List, Bool, Option, Some, None, sum_by, if◌then◌else◌, slice_index_or}
use Rattle.bit_texts.specs.Bits.{binary}
use Rattle.bit_texts.specs.Texts.{IsPrefixFree}

-- a number of bits, and their value
abbrev pub Code : Type 0
Code = ℕ × ℕ

-- an absent entry has no bits, and there is none past the end
abbrev pub code_at : List Code → ℕ → Code
code_at codes place = slice_index_or codes place (0, 0)

abbrev pub IsEntry : List Code → ℕ → Type 0
IsEntry codes place = 0 < (code_at codes place).0

abbrev pub present : Code → Option Code
present c = if c.0 == 0 then None else Some c

-- the bits of a code word, and of the entry at a place
abbrev pub word : Code → List Bool
word c = binary c.0 c.1

abbrev pub word_at : List Code → ℕ → List Bool
word_at codes place = word (code_at codes place)

-- code words of at most 16 bits, none of which begins another one
pub record IsCodeTable (codes : List Code) : Type 0 where
  pub fits : (place : ℕ) → ((code_at codes place).0 ≤ 16) × ((code_at codes place).1 < 2 ^ (code_at codes place).0)
  pub prefix_free : IsPrefixFree (IsEntry codes) (word_at codes)

-- bits begin with the code word at a place, or with none of the table
abbrev pub BeginsWith : List Code → List Bool → Option ℕ → Type 0
BeginsWith codes bits None = (place : ℕ) (more : List Bool) → IsEntry codes place → bits ≢ word_at codes place ++ more
BeginsWith codes bits (Some place) = IsEntry codes place × ((more : List Bool) × (bits ≡ word_at codes place ++ more))

-- the part of all texts of 16 bits that begin with a code word of the table, in 2 ^ 16 parts
abbrev pub weight : List Code → ℕ
weight codes = sum_by (λ c. if c.0 == 0 then 0 else 2 ^ (16 - c.0)) codes
