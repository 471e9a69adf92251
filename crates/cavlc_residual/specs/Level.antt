use Rattle.std.specs.Prelude.{ℕ, zero, suc, ◌+◌, ◌-◌, ◌*◌, ◌^◌, ◌<◌, ◌≤◌, ◌==◌, ◌&&◌, min, Bool, true, false, List, [], ◌∷◌, ◌++◌, replicate, nat_lt, nat_le, if◌then◌else◌}
use Rattle.bit_texts.specs.Bits.{binary}

-- A level's code is level_prefix and level_suffix (9.2.2, 9.2.2.1), here as a pair, under a suffixLength s.

-- level_prefix: that many zeros, and a one
abbrev pub prefix_bits : ℕ → List Bool
prefix_bits p = replicate p false ++ true ∷ []

-- levelSuffixSize
abbrev pub suffix_size : ℕ → ℕ → ℕ
suffix_size s p = if nat_le 15 p then p - 3 else (if p == 14 && s == 0 then 4 else s)

-- the bits of prefix and suffix
abbrev pub word_bits : ℕ → ℕ × ℕ → List Bool
word_bits s w = prefix_bits w.0 ++ binary (suffix_size s w.0) w.1

abbrev pub IsLevelWord : ℕ → ℕ → ℕ × ℕ → Type 0
IsLevelWord s bound w = (w.0 ≤ bound) × (w.1 < 2 ^ suffix_size s w.0)

-- levelCode, before 2 is added for the first level behind fewer than three trailing ones
abbrev pub level_code : ℕ → ℕ → ℕ → ℕ
level_code s p x = min 15 p * 2 ^ s + x + (if nat_le 15 p && s == 0 then 15 else 0) + (if nat_le 16 p then 2 ^ (p - 3) - 4096 else 0)

-- The codes are numbered in the order of their prefixes, and 2 ^ levelSuffixSize of them have one prefix.
-- From prefix p on, the word of the code with this number, as far as n prefixes go.
unfoldable pub word_from : ℕ → ℕ → ℕ → ℕ → ℕ × ℕ
word_from zero s p number = (p, number)
word_from (suc n) s p number =
    if nat_lt number (2 ^ suffix_size s p) then (p, number) else word_from n s (suc p) (number - 2 ^ suffix_size s p)

-- The word of a levelCode. Of words with a prefix up to 20 it is the one whose `level_code` that is, and there is no other
-- (law `a_level_code_has_one_word`). Prefix 21 says that no prefix up to 20 has it.
unfoldable pub level_word : ℕ → ℕ → ℕ × ℕ
level_word s code = word_from 21 s 0 code
