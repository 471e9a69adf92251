use Rattle.std.proofs.Common.{◌≡◌, take, false}
use Rattle.cavlc_residual.specs.Block.{total_coeff}
use Rattle.cavlc_mb_residual.proofs.counts.has_levels.Given as goal

abbrev pub invariant-loop-level : goal.invariant-loop-level
invariant-loop-level l = l.some ≡ false → total_coeff (take l.level-index l.levels) ≡ 0
