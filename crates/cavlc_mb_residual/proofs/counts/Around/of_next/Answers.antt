use Rattle.std.proofs.Common.{◌∙◌, arith}
use Rattle.cavlc_mb_residual.proofs.AroundLaws.{around_by_rows}
use Rattle.cavlc_mb_residual.proofs.counts.Around.of_next.Goals as goal

pub returns-else-shape-clause-value : goal.returns-else-shape-clause-value
returns-else-shape-clause-value c done are =
    c.beside.ensures.value
    ∙ around_by_rows c.args.shape.now c.args.rows.now done c.args.field c.left.result c.above.result c.if-shape.false (omega (arith, c.requires.shape.some)) are (c.left.ensures.value c.args.shape.now done are) (c.above.ensures.value c.args.shape.now done are)
