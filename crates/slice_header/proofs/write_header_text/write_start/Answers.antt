use Rattle.ref_pic_lists.proofs.Written.{stopped, within, behind, failed, ends, after, last}
use Rattle.slice_header.proofs.write_header_text.write_start.Goals as goal

pub returns-in_err-write_ue : goal.returns-in_err-write_ue
returns-in_err-write_ue g c = failed c.from_residual.result c.from_residual.ensures.0 (within _ (stopped c.in_err-write_ue.ensures))

pub returns-in_err-write_ue-2 : goal.returns-in_err-write_ue-2
returns-in_err-write_ue-2 g c = failed c.from_residual-in_err-write_ue-2.result c.from_residual-in_err-write_ue-2.ensures.0 (behind c.in_ok-write_ue.ensures (within _ (stopped c.in_err-write_ue-2.ensures)))

pub returns : goal.returns
returns g c = (after c.in_ok-write_ue.ensures (after c.in_ok-write_ue-2.ensures (last (ends c.write_ue-3.result (rw c.from.ensures at c.write_ue-3.ensures))))).is
