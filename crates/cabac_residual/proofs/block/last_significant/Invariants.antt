use Rattle.std.proofs.Common.{◌≡◌, ◌-◌, ◌≤◌, drop, length, replicate, pos}
use Rattle.cabac_residual.proofs.block.last_significant.Given as goal

abbrev pub invariant-loop-at : goal.invariant-loop-at
invariant-loop-at l = record {
  place : l.at ≤ length l.levels;
  zeros : drop l.at l.levels ≡ replicate (length l.levels - l.at) (pos 0);
}

abbrev pub decreases-loop-at : goal.decreases-loop-at
decreases-loop-at l = l.at
