use Rattle.ref_pic_lists.proofs.Written.{stopped, within, failed, ends, after}
use Rattle.header_parts.proofs.write_marking_text.write_two.Goals as goal

pub returns-in_err-write_ue : goal.returns-in_err-write_ue
returns-in_err-write_ue g c = failed c.from_residual.result c.from_residual.ensures.0 (within _ (stopped c.in_err-write_ue.ensures))

pub returns : goal.returns
returns g c = (after c.in_ok-write_ue.ensures (ends c.write_ue-2.result c.write_ue-2.ensures)).is
