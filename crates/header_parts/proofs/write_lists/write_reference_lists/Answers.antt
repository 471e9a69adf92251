use Rattle.ref_pic_lists.proofs.Written.{stopped, within, behind, failed, ends, after, last}
use Rattle.header_parts.proofs.write_lists.write_reference_lists.Goals as goal

pub returns-in_err-write_list_when : goal.returns-in_err-write_list_when
returns-in_err-write_list_when g c = failed c.from_residual.result c.from_residual.ensures.0 (within _ (stopped (rw c.is_i_slice.ensures at c.in_err-write_list_when.ensures)))

pub returns-in_err-write_list_when-2 : goal.returns-in_err-write_list_when-2
returns-in_err-write_list_when-2 g c = failed c.from_residual-in_err-write_list_when-2.result c.from_residual-in_err-write_list_when-2.ensures.0 (behind (rw c.is_i_slice.ensures at c.in_ok-write_list_when.ensures) (within _ (stopped (rw c.is_b_slice.ensures at c.in_err-write_list_when-2.ensures))))

pub returns : goal.returns
returns g c = (after (rw c.is_i_slice.ensures at c.in_ok-write_list_when.ensures) (after (rw c.is_b_slice.ensures at c.in_ok-write_list_when-2.ensures) (last (ends c.write_table.result c.write_table.ensures)))).is
