use Rattle.std.proofs.Common.{arith}
use Rattle.std.proofs.lemmas.Grind.{common_steps}
use Rattle.h264_types.proofs.LastRowsLaws.{rows_push}
use Rattle.h264_types.proofs.rows.Rows.push.Goals as goal

pub returns-clause-rows : goal.returns-clause-rows
returns-clause-rows g c = λ shape mbs are.
    rows_push g.K.OfMb.of shape c.args.self.now mbs are c.args.mb.now _ (grind (arith, common_steps))
