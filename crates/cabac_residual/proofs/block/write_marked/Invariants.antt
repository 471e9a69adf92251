use Rattle.std.proofs.Common.{◌≡◌, ◌+◌, ◌≤◌, drop, false}
use Rattle.binarisation.proofs.Strings.{Completes}
use Rattle.cabac_residual.specs.Block.{no_levels, levels_before, marks_of}
use Rattle.cabac_residual.proofs.block.write_marked.Given as goal

abbrev pub invariant-loop-at : goal.invariant-loop-at
invariant-loop-at g l = record {
  going : g.S.BinSink.over l.s ≡ false;
  place : l.at ≤ l.count;
  few : l.counts.ones + l.counts.above + l.at ≤ 64;
  writes : Completes g.S.BinSink.step (levels_before l.cat no_levels (drop l.count l.levels) (marks_of l.count l.levels)) l.fn.s (levels_before l.cat l.counts (drop l.at l.levels) (marks_of l.at l.levels)) l.s;
}

abbrev pub decreases-loop-at : goal.decreases-loop-at
decreases-loop-at g l = l.at
