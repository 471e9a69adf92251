use Rattle.ref_pic_lists.proofs.Written.{stopped, within, behind, failed, ends, after, last}
use Rattle.ref_pic_lists.proofs.write_weights_text.write_weights.Goals as goal

pub returns-in_err-write_ue : goal.returns-in_err-write_ue
returns-in_err-write_ue g c = failed c.from_residual.result c.from_residual.ensures.0 (within _ (stopped c.in_err-write_ue.ensures))

pub returns-in_err-write_ue-2 : goal.returns-in_err-write_ue-2
returns-in_err-write_ue-2 g c = failed c.from_residual-in_err-write_ue-2.result c.from_residual-in_err-write_ue-2.ensures.0 (behind c.in_ok-write_ue.ensures (within _ (stopped c.in_err-write_ue-2.ensures)))

pub returns-in_err-write_entries : goal.returns-in_err-write_entries
returns-in_err-write_entries g c =
    failed c.from_residual-in_err-write_entries.result c.from_residual-in_err-write_entries.ensures.0 (behind c.in_ok-write_ue.ensures (behind c.in_ok-write_ue-2.ensures (within _ (stopped (rw c.as_slice.ensures at c.in_err-write_entries.ensures)))))

pub returns : goal.returns
returns g c =
    (after c.in_ok-write_ue.ensures (after c.in_ok-write_ue-2.ensures (after (rw c.as_slice.ensures at c.in_ok-write_entries.ensures) (last (ends c.write_entries-2.result (rw c.as_slice-2.ensures at c.write_entries-2.ensures)))))).is
