use Rattle.std.proofs.Common.{◌≡◌, take}
use Rattle.cabac_residual.proofs.block.levels_of.Given as goal

abbrev pub invariant-loop-level : goal.invariant-loop-level
invariant-loop-level l = l.levels.items ≡ take l.level-index l.list
