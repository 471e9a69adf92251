-- The table of initial pairs (9.3.1.1).
use Rattle.std.specs.Prelude.{ℕ, ◌/◌, ◌%◌, ◌==◌, ℤ, pos, Bool, true, false, List, [], slice_index_or, if◌then◌else◌}
use Rattle.init_table.specs.declared.table.InitTable.{InitTable}

abbrev pub pair_in : List (List (ℤ × ℤ)) → ℕ → ℕ → ℤ × ℤ
pair_in rows ctx column = slice_index_or (slice_index_or rows ctx []) column (pos 0, pos 0)

-- the pair (m, n) of a context in a column
abbrev pub pair_of : InitTable → ℕ → ℕ → ℤ × ℤ
pair_of table = pair_in table.pairs

-- the number at a place of a table's text, in which each pair has two places
abbrev pub number_in : List (List (ℤ × ℤ)) → ℕ → ℤ
number_in rows place =
    if place % 2 == 0 then (pair_in rows (place / 8) (place / 2 % 4)).0 else (pair_in rows (place / 8) (place / 2 % 4)).1

-- a pair with another m, or with another n
abbrev pub pair_with : Bool → ℤ → ℤ × ℤ → ℤ × ℤ
pair_with true m pair = (m, pair.1)
pair_with false n pair = (pair.0, n)
