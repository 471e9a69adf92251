use Rattle.std.proofs.Common.{◌-◌, arith}
use Rattle.h264_types.proofs.LastRowsLaws.{rows_above, all_at_back}
use Rattle.h264_types.proofs.rows.Rows.above.Goals as goal

pub returns-clause-value : goal.returns-clause-value
returns-clause-value g c = λ shape mbs are.
    rows_above g.K.OfMb.of shape c.args.self.now mbs are (grind arith) (grind arith) c.copied.result (grind arith)

pub returns-clause-is : goal.returns-clause-is
returns-clause-is g c = all_at_back g.K.OfMb.Is c.self.inside.kept.items (c.self.inside.width - 1) c.copied.result (grind arith) c.self.invariant.1
