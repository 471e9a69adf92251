use Rattle.std.proofs.Common.{rules, w32}
use Rattle.std.proofs.lemmas.Int.{to_z-of_z}
use Rattle.ref_pic_lists.proofs.Written.{stopped, within, failed, ends, after}
use Rattle.ref_pic_lists.proofs.write_weights_text.write_weight.Goals as goal

pub returns-in_err-write_signed : goal.returns-in_err-write_signed
returns-in_err-write_signed g c = failed c.from_residual.result c.from_residual.ensures.0 (within _ (stopped (rw (to_z-of_z w32 c.args.weight.weight (search rules)) at c.in_err-write_signed.ensures)))

pub returns : goal.returns
returns g c =
    (after (rw (to_z-of_z w32 c.args.weight.weight (search rules)) at c.in_ok-write_signed.ensures) (ends c.write_signed-2.result (rw (to_z-of_z w32 c.args.weight.offset (search rules)) at c.write_signed-2.ensures))).is
