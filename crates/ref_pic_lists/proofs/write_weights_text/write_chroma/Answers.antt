use Rattle.ref_pic_lists.proofs.Written.{stopped, within, failed, ends, after}
use Rattle.ref_pic_lists.proofs.write_weights_text.write_chroma.Goals as goal

pub returns-in_err-write_weight : goal.returns-in_err-write_weight
returns-in_err-write_weight g c = failed c.from_residual.result c.from_residual.ensures.0 (within _ (stopped c.in_err-write_weight.ensures))

pub returns : goal.returns
returns g c = (after c.in_ok-write_weight.ensures (ends c.write_weight-2.result c.write_weight-2.ensures)).is
