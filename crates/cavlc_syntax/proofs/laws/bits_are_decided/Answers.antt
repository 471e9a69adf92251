use Rattle.cavlc_syntax.proofs.Decided.{decided}
use Rattle.cavlc_syntax.proofs.laws.bits_are_decided.Goals as goal

pub returns : goal.returns
returns c = decided
