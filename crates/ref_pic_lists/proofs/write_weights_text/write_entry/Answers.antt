use Rattle.ref_pic_lists.proofs.Written.{stopped, within, failed, ends, after}
use Rattle.ref_pic_lists.proofs.write_weights_text.write_entry.Goals as goal

pub returns-in_err-write_luma : goal.returns-in_err-write_luma
returns-in_err-write_luma g c = failed c.from_residual.result c.from_residual.ensures.0 (within _ (stopped c.in_err-write_luma.ensures))

pub returns : goal.returns
returns g c = (after c.in_ok-write_luma.ensures (ends c.write_both_chroma.result c.write_both_chroma.ensures)).is
