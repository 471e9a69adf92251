use Rattle.cavlc_mb_residual.proofs.AroundLaws.{around_of-append}
use Rattle.std.proofs.Common.{◌∷◌}
use Rattle.cavlc_syntax.proofs.laws.the_list_before_tells_counts.Goals as goal

pub returns : goal.returns
returns c shape before mb behind some = around_of-append shape before (mb ∷ behind) mb.field some
