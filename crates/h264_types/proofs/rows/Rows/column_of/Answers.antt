use Rattle.std.proofs.Common.{◌+◌, ◌%◌, ap, ◌∙◌, arith}
use Rattle.h264_types.specs.LastRows.{unit_of}
use Rattle.h264_types.proofs.LastRowsLaws.{column_of_last}
use Rattle.h264_types.proofs.rows.Rows.column_of.Goals as goal

pub returns-else-number-unit_of-clause-value : goal.returns-else-number-unit_of-clause-value
returns-else-number-unit_of-clause-value g c = λ near.
    column_of_last (unit_of c.self.inside.mbaff c.self.inside.first) c.args.number c.unit_of.result c.self.inside.width c.self.inside.column c.column_before.result
    (grind arith) (grind arith) (c.self.invariant.0.next ∙ ap (λ next. (unit_of c.self.inside.mbaff c.self.inside.first + next) % c.self.inside.width) (grind arith)) c.column_before.ensures
    ∙ ap (λ rows. (unit_of rows.mbaff rows.first + c.args.number) % rows.width) c.self.view_is
