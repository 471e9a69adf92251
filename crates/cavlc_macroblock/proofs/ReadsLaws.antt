-- The same reading, of values that are described in other words.
use Rattle.std.proofs.Common.{◌≡◌, Bool, List, ◌++◌, length, Option, Some, None, sym, ap, ◌∙◌}
use Rattle.bit_texts.specs.Cursor.{Cursor, cursor}
use Rattle.bit_texts.specs.Texts.{Reads}

-- the place of a source in its bits
abbrev pub place_in : {B : Type 0} → (B → List Bool) → (B → List Bool) → B → Cursor
place_in taken left bits = cursor (length (taken bits)) (left bits)

pub Reads-as : {V : Type 0} (Is Is' : V → Type 0) (text text' : V → List Bool) → ((v : V) → Is v → Is' v) → ((v : V) → Is' v → Is v) → ((v : V) → Is' v → text v ≡ text' v)
    → (left : List Bool) (r : Option V) (rest : List Bool) → Reads Is text left r rest → Reads Is' text' left r rest
Reads-as Is Is' text text' into back same left None rest none = λ v more is bad. none v more (back v is) (bad ∙ ap (λ t. t ++ more) (sym (same v is)))
Reads-as Is Is' text text' into back same left (Some v) rest some = (into v some.0, some.1 ∙ ap (λ t. t ++ rest) (same v (into v some.0)))
