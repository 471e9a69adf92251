use Rattle.cavlc_mb_residual.proofs.CountLaws.{around_is}
use Rattle.cavlc_mb_residual.proofs.laws.counts_beside_are_around.Goals as goal

pub returns : goal.returns
returns c = around_is
