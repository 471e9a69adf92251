-- The place in a source of bits.
use Rattle.std.specs.Prelude.{Bool, List, length}
use Rattle.bit_texts.specs.Cursor.{Cursor, cursor}

-- by the bits taken and those left
abbrev pub place_in : {B : Type 0} → (B → List Bool) → (B → List Bool) → B → Cursor
place_in taken left bits = cursor (length (taken bits)) (left bits)
