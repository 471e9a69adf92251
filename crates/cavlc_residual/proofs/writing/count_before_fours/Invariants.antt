use Rattle.std.proofs.Common.{◌≡◌, ◌≤◌, length, take, reverse, filter}
use Rattle.cavlc_residual.specs.Block.{is_nonzero}
use Rattle.cavlc_residual.specs.Places.{places_of}
use Rattle.cavlc_residual.proofs.writing.count_before_fours.Given as goal

abbrev pub invariant-loop-count : goal.invariant-loop-count
invariant-loop-count l = record {
  within : l.count ≤ length l.levels;
  same : filter is_nonzero (reverse l.levels) ≡ filter is_nonzero (reverse (take l.count l.levels));
  same_places : places_of (reverse l.levels) ≡ places_of (reverse (take l.count l.levels));
}

abbrev pub decreases-loop-count : goal.decreases-loop-count
decreases-loop-count l = l.count
