-- Zero bits up to the byte boundary (ITU-T H.264, 7.3.5), and reading them.
use Rattle.std.specs.Prelude.{ℕ, zero, suc, ◌-◌, ◌%◌, if◌then◌else◌, Bool, false, List, replicate, Option, Some, None}
use Rattle.bit_texts.specs.Cursor.{Cursor}
use Rattle.bit_texts.specs.Readings.{◌>>=◌}
use Rattle.exp_golomb.specs.Code.{Flag}
use Rattle.exp_golomb.specs.Element.{element_at}

-- pcm_alignment_zero_bit: zero bits up to the byte boundary, with `pos` bits before them
abbrev pub alignment : ℕ → List Bool
alignment pos = replicate ((8 - pos % 8) % 8) false

-- that many zero bits
unfoldable pub zeros_at : ℕ → Cursor → Option (Unit {0} × Cursor)
zeros_at zero c = Some (tt, c)
zeros_at (suc n) c = element_at Flag c >>= λ bit. if bit.0 then None else zeros_at n bit.1

-- zero bits up to the byte boundary. This is inverse to their text.
unfoldable pub alignment_at : Cursor → Option (Unit {0} × Cursor)
alignment_at c = zeros_at ((8 - c.taken % 8) % 8) c
