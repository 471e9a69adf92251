use Rattle.ref_pic_lists.proofs.Written.{stopped, within, failed, ends, after, last}
use Rattle.ref_pic_lists.proofs.write_modification_text.write_modification.Goals as goal

pub returns-in_err-write_flag : goal.returns-in_err-write_flag
returns-in_err-write_flag g c = failed c.from_residual.result c.from_residual.ensures.0 (within _ (stopped c.in_err-write_flag.ensures))

pub returns : goal.returns
returns g c = (after c.in_ok-write_flag.ensures (last (ends c.write_operations_when.result (rw c.as_slice.ensures at c.write_operations_when.ensures)))).is
