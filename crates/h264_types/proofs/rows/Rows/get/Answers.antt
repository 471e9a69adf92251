use Rattle.std.proofs.Common.{ap, ◌∙◌, arith}
use Rattle.std.specs.Prelude.{slice_get}
use Rattle.h264_types.proofs.LastRowsLaws.{rows_at}
use Rattle.h264_types.proofs.rows.Rows.get.Goals as goal

pub returns-clause-value : goal.returns-clause-value
returns-clause-value g c = λ shape mbs are recent.
    c.get.ensures ∙ ap (λ rows. slice_get rows.last c.in_ok-checked_sub.field-0) c.self.view_is
    ∙ rows_at g.K.OfMb.of shape c.args.self.now mbs are c.args.number c.in_ok-checked_sub.field-0 recent (grind arith)
