use Rattle.std.proofs.Common.{◌≡◌, ◌+◌, ◌*◌, ◌<◌, ℕ, pos, get_or, length}
use Rattle.cavlc_mb_residual.proofs.transform_8x8.every_fourth.Given as goal

abbrev pub invariant-loop-k : goal.invariant-loop-k
invariant-loop-k l = record {
  done : (m : ℕ) → m < l.k → get_or l.list m (pos 0) ≡ get_or l.quarter (4 * m + l.i) (pos 0);
  size : length l.list ≡ 16;
}
