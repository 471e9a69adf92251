use Rattle.std.proofs.Common.{rules, w32}
use Rattle.std.proofs.lemmas.Int.{to_z-of_z}
use Rattle.ref_pic_lists.proofs.Written.{stopped, within, behind, failed, ends, after, last}
use Rattle.header_parts.proofs.write_parts.write_picture_order.Goals as goal

pub returns-in_err-write_u_when : goal.returns-in_err-write_u_when
returns-in_err-write_u_when g c = failed c.from_residual.result c.from_residual.ensures.0 (within _ (stopped (rw c.lsb_length.ensures.value at c.in_err-write_u_when.ensures)))

pub returns-in_err-write_se_when : goal.returns-in_err-write_se_when
returns-in_err-write_se_when g c = failed c.from_residual-in_err-write_se_when.result c.from_residual-in_err-write_se_when.ensures.0 (behind (rw c.lsb_length.ensures.value at c.in_ok-write_u_when.ensures) (within _ (stopped (rw (c.has_bottom_delta-has_bottom.ensures, to_z-of_z w32 c.args.h.now.delta_pic_order_cnt_bottom (search rules)) at c.in_err-write_se_when.ensures))))

pub returns : goal.returns
returns g c = (after (rw c.lsb_length.ensures.value at c.in_ok-write_u_when.ensures) (after (rw (c.has_bottom_delta-has_bottom.ensures, to_z-of_z w32 c.args.h.now.delta_pic_order_cnt_bottom (search rules)) at c.in_ok-write_se_when.ensures) (last (ends c.write_deltas.result (rw c.as_slice.ensures at c.write_deltas.ensures))))).is
