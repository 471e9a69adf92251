-- Slice types (ITU-T H.264, Table 7-6).
use Rattle.std.specs.Prelude.{ℕ, ◌%◌, ◌==◌, nat_le, Bool}

abbrev pub is_p : ℕ → Bool
is_p slice_type = slice_type % 5 == 0

abbrev pub is_b : ℕ → Bool
is_b slice_type = slice_type % 5 == 1

abbrev pub is_i : ℕ → Bool
is_i slice_type = slice_type % 5 == 2

-- SP and SI
abbrev pub is_switching : ℕ → Bool
is_switching slice_type = nat_le 3 (slice_type % 5)
