-- Texts that are appended part by part.
use Rattle.std.proofs.Common.{◌≡◌, Bool, List, ◌++◌, Result, IsErr}
use Rattle.bit_texts.specs.Texts.{Wrote, Appends}
use Rattle.bit_texts.proofs.Writing.{Appends-Err, Appends-stop as stop, Wrote-stop}

-- a front of the text was appended
abbrev pub AppendsFront : List Bool → List Bool → List Bool → Type 0
AppendsFront old new text = (rest : List Bool) × Wrote old new text rest

pub Appends-front : {T E : Type 0} (old new text : List Bool) (r : Result T E) → IsErr r → AppendsFront old new text → Appends old new text r
Appends-front old new text r err front = Appends-Err old new text front.0 r err front.1

pub Appends-stop : {T E : Type 0} (old new a b : List Bool) (r : Result T E) → AppendsFront old new a → IsErr r → Appends old new (a ++ b) r
Appends-stop old new a b r front err = stop old new a b front.0 r err front.1

pub Wrote-front : (old mid new text part more rest : List Bool) → more ≡ part ++ rest → Wrote old mid text more → AppendsFront mid new part → AppendsFront old new text
Wrote-front old mid new text part more rest e wrote front = (front.0 ++ rest, Wrote-stop old mid new text part more rest front.0 e wrote front.1)
