use Rattle.ref_pic_lists.proofs.Written.{stopped, within, behind, failed, ends, after, last}
use Rattle.header_parts.proofs.write_references.write_active_references.Goals as goal

pub returns-in_err-write_flag_when : goal.returns-in_err-write_flag_when
returns-in_err-write_flag_when g c = failed c.from_residual.result c.from_residual.ensures.0 (within _ (stopped (rw c.is_b_slice.ensures at c.in_err-write_flag_when.ensures)))

pub returns-in_err-write_flag_when-2 : goal.returns-in_err-write_flag_when-2
returns-in_err-write_flag_when-2 g c = failed c.from_residual-in_err-write_flag_when-2.result c.from_residual-in_err-write_flag_when-2.ensures.0 (behind (rw c.is_b_slice.ensures at c.in_ok-write_flag_when.ensures) (within _ (stopped (rw c.is_i_slice.ensures at c.in_err-write_flag_when-2.ensures))))

pub returns-in_err-write_ue_when : goal.returns-in_err-write_ue_when
returns-in_err-write_ue_when g c = failed c.from_residual-in_err-write_ue_when.result c.from_residual-in_err-write_ue_when.ensures.0 (behind (rw c.is_b_slice.ensures at c.in_ok-write_flag_when.ensures) (behind (rw c.is_i_slice.ensures at c.in_ok-write_flag_when-2.ensures) (within _ (stopped c.in_err-write_ue_when.ensures))))

pub returns : goal.returns
returns g c = (after (rw c.is_b_slice.ensures at c.in_ok-write_flag_when.ensures) (after (rw c.is_i_slice.ensures at c.in_ok-write_flag_when-2.ensures) (after c.in_ok-write_ue_when.ensures (last (ends c.write_ue_when-2.result (rw c.sends_list_1-sends_l1.ensures at c.write_ue_when-2.ensures)))))).is
