-- The header byte of a unit (ITU-T H.264, 7.3.1 and 7.4.1): forbidden_zero_bit, nal_ref_idc in two bits, nal_unit_type in five.
use Rattle.std.specs.Prelude.{ℕ, ◌/◌, ◌%◌, ◌==◌, Bool, not}

-- IdrPicFlag: nal_unit_type is 5
abbrev pub is_idr : ℕ → Bool
is_idr nal = nal % 32 == 5

-- nal_ref_idc isn't 0
abbrev pub is_reference : ℕ → Bool
is_reference nal = not (nal / 32 % 4 == 0)
