use Rattle.cavlc_syntax.proofs.Texts.{slice_stops}
use Rattle.cavlc_syntax.proofs.laws.text_ends_in_stop_bit.Goals as goal

pub returns : goal.returns
returns c = slice_stops
