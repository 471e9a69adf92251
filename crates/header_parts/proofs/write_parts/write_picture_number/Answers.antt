use Rattle.ref_pic_lists.proofs.Written.{stopped, within, behind, failed, ends, after, last}
use Rattle.header_parts.proofs.write_parts.write_picture_number.Goals as goal

pub returns-in_err-write_u : goal.returns-in_err-write_u
returns-in_err-write_u g c = failed c.from_residual.result c.from_residual.ensures.0 (within _ (stopped (rw c.frame_num_length.ensures.value at c.in_err-write_u.ensures)))

pub returns-in_err-write_flag_when : goal.returns-in_err-write_flag_when
returns-in_err-write_flag_when g c = failed c.from_residual-in_err-write_flag_when.result c.from_residual-in_err-write_flag_when.ensures.0 (behind (rw c.frame_num_length.ensures.value at c.in_ok-write_u.ensures) (within _ (stopped c.in_err-write_flag_when.ensures)))

pub returns-in_err-write_flag_when-2 : goal.returns-in_err-write_flag_when-2
returns-in_err-write_flag_when-2 g c = failed c.from_residual-in_err-write_flag_when-2.result c.from_residual-in_err-write_flag_when-2.ensures.0 (behind (rw c.frame_num_length.ensures.value at c.in_ok-write_u.ensures) (behind c.in_ok-write_flag_when.ensures (within _ (stopped c.in_err-write_flag_when-2.ensures))))

pub returns : goal.returns
returns g c = (after (rw c.frame_num_length.ensures.value at c.in_ok-write_u.ensures) (after c.in_ok-write_flag_when.ensures (after c.in_ok-write_flag_when-2.ensures (last (ends c.write_ue_when.result (rw c.is_idr_unit.ensures at c.write_ue_when.ensures)))))).is
