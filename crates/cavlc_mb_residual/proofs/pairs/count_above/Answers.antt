use Rattle.cavlc_mb_residual.specs.Counts.{count_at, count_of}
use Rattle.cavlc_mb_residual.proofs.AroundLaws.{above_told}
use Rattle.cavlc_mb_residual.proofs.pairs.count_above.Goals as goal

pub returns-clause-value : goal.returns-clause-value
returns-clause-value c mbs are =
    above_told c.args.shape.now c.args.rows.now mbs c.requires.picture are (count_at (count_of c.args.component) mbs) c.count.result c.args.field c.row.result _ c.above-found.result c.count_at.result
    c.count.ensures c.row.ensures.value (c.above-found.ensures.value mbs) (c.count_at.ensures.value c.args.shape.now mbs are)
