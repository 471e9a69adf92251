use Rattle.std.proofs.Common.{rules}
use Rattle.std.specs.Prelude.{slice_get}
use Rattle.cavlc_mb_residual.proofs.AroundLaws.{count_of_kept}
use Rattle.cavlc_mb_residual.proofs.pairs.count_at.Goals as goal

pub returns-in-Some-get-clause-value : goal.returns-in-Some-get-clause-value
returns-in-Some-get-clause-value c = λ shape mbs are recent. search (rules, count_of_kept c.args.component (slice_get mbs c.in-Some.spot.mb) c.in-Some-get.counts.now c.in-Some.spot.block c.count_in.result)
