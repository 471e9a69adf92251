use Rattle.cavlc_macroblock.proofs.ValidLaws.{sent_ref0}
use Rattle.cavlc_macroblock.proofs.laws.ref0_has_no_index.Goals as goal

pub returns : goal.returns
returns c = sent_ref0
