use Rattle.cavlc_residual.proofs.BlockLemmas.{never_beyond}
use Rattle.cavlc_residual.proofs.laws.never_beyond.Goals as goal

pub returns : goal.returns
returns c = never_beyond
