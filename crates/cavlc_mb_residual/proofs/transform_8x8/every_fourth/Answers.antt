use Rattle.std.proofs.Common.{◌+◌, ◌*◌, pos, get_or, arith}
use Rattle.cavlc_mb_residual.proofs.Quarters.{sixteen_is}
use Rattle.cavlc_mb_residual.proofs.transform_8x8.every_fourth.Goals as goal

pub returns : goal.returns
returns c =
    let known = c.loop-k.invariant in
    sixteen_is (pos 0) (λ m. get_or c.args.quarter.now (4 * m + c.args.i) (pos 0)) c.loop-k.list known.size (λ m below. known.done m (omega (arith, below, c.loop-k-test.false)))
