use Rattle.ref_pic_lists.proofs.Written.{stopped, within, failed, ends, after}
use Rattle.ref_pic_lists.proofs.write_weights_text.write_some_luma.Goals as goal

pub returns-in_err-write_flag : goal.returns-in_err-write_flag
returns-in_err-write_flag g c = failed c.from_residual.result c.from_residual.ensures.0 (within _ (stopped c.in_err-write_flag.ensures))

pub returns : goal.returns
returns g c = (after c.in_ok-write_flag.ensures (ends c.write_weight.result c.write_weight.ensures)).is
