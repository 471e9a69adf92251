use Rattle.std.proofs.Common.{◌≡◌, ◌+◌, ◌≤◌, reverse, take, drop, length, get_or, false}
use Rattle.binarisation.proofs.Strings.{Continues}
use Rattle.cabac_residual.specs.Block.{no_levels, levels_before, marks_below, behind_last}
use Rattle.cabac_residual.proofs.Places.{IsClear}
use Rattle.cabac_residual.proofs.block.read_at_places.Given as goal

abbrev pub invariant-loop-at : goal.invariant-loop-at
invariant-loop-at g l =
    let last = behind_last (reverse l.places) in
    let limit = get_or l.places l.at last in
    record {
      going : g.S.BinSource.over l.s ≡ false;
      place : l.at ≤ length l.places;
      few : l.counts.ones + l.counts.above + l.at ≤ 64;
      clear : IsClear limit l.levels (reverse (take l.at l.places));
      reads : Continues g.S.BinSource.step (levels_before l.cat no_levels (drop last l.fn.levels) (marks_below last (reverse l.places))) l.fn.s (levels_before l.cat l.counts (drop limit l.levels) (marks_below limit (reverse (take l.at l.places)))) l.s;
    }

abbrev pub decreases-loop-at : goal.decreases-loop-at
decreases-loop-at g l = l.at
