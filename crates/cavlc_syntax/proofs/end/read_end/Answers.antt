use Rattle.std.proofs.Common.{◌≡◌, Bool, true, false, List, [], ◌∷◌, Option, Some, None}
use Rattle.std.specs.Prelude.{MatchBool, MatchOption, not}
use Rattle.std.specs.Option.{is_some}
use Rattle.bit_texts.specs.Cursor.{Cursor}
use Rattle.cavlc_syntax.specs.SliceText.{stop_text}
use Rattle.cavlc_syntax.specs.Reading.{stop_at}
use Rattle.cavlc_syntax.proofs.Ends.{not_stop, is_end, more_than_end}
use Rattle.cavlc_syntax.proofs.end.read_end.Goals as goal

pub returns-in_default : goal.returns-in_default
returns-in_default g c = not_stop _ c.in_default.ensures

tells_end : (c d : Cursor) (next : Option Bool) (new : List Bool) (ended : Bool) → stop_at c ≡ Some (tt, d) → MatchOption next ((d.left ≡ []) × (new ≡ [])) (λ bit. d.left ≡ bit ∷ new) → is_some next ≡ not ended
    → MatchBool ended ((c.left ≡ stop_text c.taken) × (new ≡ [])) (c.left ≡ stop_text c.taken → ⊥)
tells_end c d None new true e h says = (is_end c d e h.0, h.1)
tells_end c d None new false e h says = absurd cc
tells_end c d (Some b) new true e h says = absurd cc
tells_end c d (Some b) new false e h says = more_than_end c d b new e h

pub returns : goal.returns
returns g c = tells_end _ _ c.bit.result _ c.is_none.result c.in-Some.ensures c.bit.ensures.bit c.is_none.ensures
