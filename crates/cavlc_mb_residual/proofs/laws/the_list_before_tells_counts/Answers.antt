use Rattle.cavlc_mb_residual.proofs.AroundLaws.{around_of-append}
use Rattle.cavlc_mb_residual.proofs.laws.the_list_before_tells_counts.Goals as goal

pub returns : goal.returns
returns c = around_of-append
