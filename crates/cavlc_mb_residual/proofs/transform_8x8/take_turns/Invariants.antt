use Rattle.std.proofs.Common.{◌≡◌, ◌+◌, ◌*◌, ◌/◌, ◌%◌, ◌<◌, ℕ, pos, get_or, length}
use Rattle.cavlc_mb_residual.proofs.transform_8x8.take_turns.Given as goal

abbrev pub invariant-loop-j : goal.invariant-loop-j
invariant-loop-j l = record {
  done : (m : ℕ) → m < l.j → get_or l.levels m (pos 0) ≡ get_or l.lists (16 * (m % 4) + m / 4) (pos 0);
  size : length l.levels ≡ 64;
}
