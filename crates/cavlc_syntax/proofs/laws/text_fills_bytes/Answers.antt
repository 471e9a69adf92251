use Rattle.cavlc_syntax.proofs.Texts.{slice_fills}
use Rattle.cavlc_syntax.proofs.laws.text_fills_bytes.Goals as goal

pub returns : goal.returns
returns c = slice_fills
