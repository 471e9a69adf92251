use Rattle.std.proofs.Common.{◌-◌, length, ap, ◌∙◌, arith}
use Rattle.circular_buffer.specs.Buffer.{last_item}
use Rattle.h264_types.proofs.LastRowsLaws.{rows_left, all_at}
use Rattle.h264_types.proofs.rows.Rows.left.Goals as goal

pub returns-else-self-eq0-clause-value : goal.returns-else-self-eq0-clause-value
returns-else-self-eq0-clause-value g c = λ shape mbs are.
    c.copied.ensures ∙ c.back.ensures ∙ ap (λ rows. last_item rows.last) c.self.view_is
    ∙ rows_left g.K.OfMb.of shape c.args.self.now mbs are (grind arith) (grind arith) (grind arith)

pub returns-else-self-eq0-clause-is : goal.returns-else-self-eq0-clause-is
returns-else-self-eq0-clause-is g c =
    let items = c.self.inside.kept.items in
    all_at g.K.OfMb.Is items (length items - 1) c.copied.result (c.copied.ensures ∙ c.back.ensures) c.self.invariant.1
