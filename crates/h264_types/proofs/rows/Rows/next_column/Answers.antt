use Rattle.std.proofs.Common.{◌≡◌, ◌⊎◌, ◌+◌, ◌%◌, false, inl, inr, arith}
use Rattle.h264_types.proofs.LastRowsLaws.{column_push}
use Rattle.h264_types.proofs.rows.Rows.next_column.Goals.{else-self-via-then-self+else-self-eq0, else-self-via-else-self}
use Rattle.h264_types.proofs.rows.Rows.next_column.Goals as goal

pub returns-else-self : goal.returns-else-self
returns-else-self g c =
    let ends : (c.self.inside.mbaff ≡ false) ⊎ ((c.self.inside.count + 1) % 2 ≡ 0) = elim c.else-self.branch [
      | else-self-via-then-self+else-self-eq0 w ↦ inr (grind arith)
      | else-self-via-else-self w ↦ inl (grind arith)
    ] in
    rw (← c.self.view_is) (column_push c.self.inside.first c.self.inside.count c.self.inside.width c.self.inside.column c.column_behind.result c.self.inside.mbaff c.self.invariant.0.next ends c.column_behind.ensures)
