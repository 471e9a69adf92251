use Rattle.std.proofs.Common.{pos, rules, w32}
use Rattle.std.proofs.Math.ListN.{get_or}
use Rattle.std.proofs.lemmas.Int.{to_z-of_z}
use Rattle.exp_golomb.specs.Code.{se}
use Rattle.ref_pic_lists.proofs.Written.{stopped, failed, member_stopped}
use Rattle.header_parts.proofs.write_parts.write_deltas.Goals as goal

pub returns-in_err-write_se : goal.returns-in_err-write_se
returns-in_err-write_se g c = failed c.from_residual.result c.from_residual.ensures.0 (member_stopped se c.args.deltas.now c.loop-delta.delta-index _ _ _ _ c.loop-delta-test.true c.loop-delta.invariant (stopped (rw (to_z-of_z w32 (get_or c.args.deltas.now c.loop-delta.delta-index (pos 0)) (search rules)) at c.in_err-write_se.ensures)))
