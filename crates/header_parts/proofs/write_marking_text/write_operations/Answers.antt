use Rattle.ref_pic_lists.proofs.Written.{stopped, within, failed, ends, after}
use Rattle.header_parts.proofs.write_marking_text.write_operations.Goals as goal

pub returns-in_err-write_each : goal.returns-in_err-write_each
returns-in_err-write_each g c = failed c.from_residual.result c.from_residual.ensures.0 (within _ (stopped c.in_err-write_each.ensures))

pub returns : goal.returns
returns g c = (after c.in_ok-write_each.ensures (ends c.write_ue.result c.write_ue.ensures)).is
