use Rattle.std.proofs.Common.{◌≡◌, ◌≤◌, take}
use Rattle.cavlc_residual.specs.Block.{total_coeff}
use Rattle.cavlc_mb_residual.proofs.counts.count_levels.Given as goal

abbrev pub invariant-loop-level : goal.invariant-loop-level
invariant-loop-level l = record {
  so_far : l.count ≡ total_coeff (take l.level-index l.levels);
  most : l.count ≤ l.level-index;
}
