use Rattle.ref_pic_lists.proofs.Written.{stopped, within, behind, failed, ends, after, last}
use Rattle.header_parts.proofs.write_marking_text.write_marking.Goals as goal

pub returns-in_err-write_flag_when : goal.returns-in_err-write_flag_when
returns-in_err-write_flag_when g c = failed c.from_residual.result c.from_residual.ensures.0 (within _ (stopped (rw c.is_idr_reference-marks_idr.ensures at c.in_err-write_flag_when.ensures)))

pub returns-in_err-write_flag_when-2 : goal.returns-in_err-write_flag_when-2
returns-in_err-write_flag_when-2 g c = failed c.from_residual-in_err-write_flag_when-2.result c.from_residual-in_err-write_flag_when-2.ensures.0 (behind (rw c.is_idr_reference-marks_idr.ensures at c.in_ok-write_flag_when.ensures) (within _ (stopped (rw c.is_idr_reference-marks_idr.ensures at c.in_err-write_flag_when-2.ensures))))

pub returns-in_err-write_flag_when-3 : goal.returns-in_err-write_flag_when-3
returns-in_err-write_flag_when-3 g c = failed c.from_residual-in_err-write_flag_when-3.result c.from_residual-in_err-write_flag_when-3.ensures.0 (behind (rw c.is_idr_reference-marks_idr.ensures at c.in_ok-write_flag_when.ensures) (behind (rw c.is_idr_reference-marks_idr.ensures at c.in_ok-write_flag_when-2.ensures) (within _ (stopped (rw c.is_other_reference-marks_other.ensures at c.in_err-write_flag_when-3.ensures)))))

pub returns : goal.returns
returns g c = (after (rw c.is_idr_reference-marks_idr.ensures at c.in_ok-write_flag_when.ensures) (after (rw c.is_idr_reference-marks_idr.ensures at c.in_ok-write_flag_when-2.ensures) (after (rw c.is_other_reference-marks_other.ensures at c.in_ok-write_flag_when-3.ensures) (last (ends c.write_operations_when.result (rw c.as_slice.ensures at c.write_operations_when.ensures)))))).is
