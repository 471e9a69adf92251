-- The text of a table of initial pairs.
use Rattle.std.specs.Prelude.{◌≡◌, ℕ, ◌+◌, ◌-◌, ◌*◌, ◌<◌, ◌==◌, nat_lt, nat_le, ℤ, pos, neg_ℤ, Bool, true, false, ◌&&◌, ◌||◌, List, [], ◌∷◌, length, filter, fold, Option, Some, None, IsSome, All, slice_get, if◌then◌else◌, ◌⊎◌, codes}
use Rattle.std.specs.Char.{is_ascii_digit}
use Rattle.std.specs.List.{list_all}
use Rattle.std.specs.Option.{option_and_then}
use Rattle.init_table.specs.InitTable.{pair_of}
use Rattle.init_table.specs.declared.table.InitTable.{InitTable}

-- space, tab, line feed, carriage return
abbrev pub is_blank : ℕ → Bool
is_blank byte = byte == 32 || byte == 9 || byte == 10 || byte == 13

-- a byte that is no blank, in front of the parts of a text
abbrev pub with_first : ℕ → List (List ℕ) → List (List ℕ)
with_first byte [] = (byte ∷ []) ∷ []
with_first byte (part ∷ parts) = (byte ∷ part) ∷ parts

-- the parts of a text around its blanks, of which some may be empty
abbrev pub parts : List ℕ → List (List ℕ)
parts [] = [] ∷ []
parts (byte ∷ bytes) = if is_blank byte then [] ∷ parts bytes else with_first byte (parts bytes)

-- the words of a text: the parts that aren't empty
abbrev pub is_word : List ℕ → Bool
is_word [] = false
is_word (byte ∷ bytes) = true

abbrev pub words : List ℕ → List (List ℕ)
words text = filter is_word (parts text)

-- one to three digits
abbrev pub are_digits : List ℕ → Bool
are_digits word = nat_lt 0 (length word) && nat_le (length word) 3 && list_all is_ascii_digit word

abbrev pub value_of : List ℕ → ℕ
value_of digits = fold (λ value digit. 10 * value + (digit - 48)) 0 digits

-- the value of one to three digits
abbrev pub magnitude_of : List ℕ → Option ℕ
magnitude_of word = if are_digits word then Some (value_of word) else None

abbrev pub negative_of : ℕ → Option ℤ
negative_of magnitude = if nat_le magnitude 128 then Some (neg_ℤ (pos magnitude)) else None

abbrev pub positive_of : ℕ → Option ℤ
positive_of magnitude = if nat_le magnitude 127 then Some (pos magnitude) else None

-- the number, from -128 to 127, that a word writes: one to three digits, behind a `-` for a negative one
abbrev pub number_of : List ℕ → Option ℤ
number_of [] = None
number_of (byte ∷ bytes) =
    if byte == 45 then option_and_then negative_of (magnitude_of bytes) else option_and_then positive_of (magnitude_of (byte ∷ bytes))

-- the number that stands as the word at this place, from 0
abbrev pub number_at : List ℕ → ℕ → Option ℤ
number_at text place = option_and_then number_of (slice_get (words text) place)

-- the one word `flat`
abbrev pub IsFlat : List ℕ → Type 0
IsFlat text = words text ≡ codes "flat" ∷ []

-- the words are 3,680 numbers, the pairs (m, n) of the columns 0 to 3 of the contexts 0 to 459 in their order
pub record Writes (text : List ℕ) (pairs : ℕ → ℕ → ℤ × ℤ) : Type 0 where
  pub m_is : (ctx column : ℕ) → ctx < 460 → column < 4 → number_at text (8 * ctx + 2 * column) ≡ Some (pairs ctx column).0
  pub n_is : (ctx column : ℕ) → ctx < 460 → column < 4 → number_at text (8 * ctx + 2 * column + 1) ≡ Some (pairs ctx column).1
  pub no_more : length (words text) ≡ 3680

-- the text is that of a table with these pairs
abbrev pub IsTableText : List ℕ → (ℕ → ℕ → ℤ × ℤ) → Type 0
IsTableText text pairs =
    (IsFlat text × ((ctx column : ℕ) → ctx < 460 → column < 4 → pairs ctx column ≡ (pos 0, pos 64))) ⊎ Writes text pairs

-- the table of a text: the pairs of 460 contexts in four columns each
pub record IsTableOf (text : List ℕ) (table : InitTable) : Type 0 where
  pub pairs : IsTableText text (pair_of table)
  pub contexts : length table.pairs ≡ 460
  pub columns : All (λ row. length row ≡ 4) table.pairs

-- A text that isn't `flat` fails at the first of its places 0 to 3,679 whose word is missing or no number, and where there is
-- none, at 3,680 if more words follow.
pub record FailsAt (text : List ℕ) (at : ℕ) : Type 0 where
  pub not_flat : IsFlat text → ⊥
  pub numbers_before : (place : ℕ) → place < at → IsSome (number_at text place)
  pub no_number : ((at < 3680) × (number_at text at ≡ None)) ⊎ ((at ≡ 3680) × (3680 < length (words text)))
