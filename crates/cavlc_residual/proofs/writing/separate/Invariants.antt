use Rattle.std.proofs.Common.{◌≡◌, ◌≤◌, ◌+◌, ◌++◌, length, take, reverse, filter}
use Rattle.cavlc_residual.specs.Block.{is_nonzero}
use Rattle.cavlc_residual.specs.Places.{places_of}
use Rattle.cavlc_residual.proofs.writing.separate.Given as goal

abbrev pub invariant-loop-left : goal.invariant-loop-left
invariant-loop-left l = record {
  within : l.count + l.left ≤ length l.levels;
  room : length l.found ≡ 16;
  room_places : length l.places ≡ 16;
  levels : filter is_nonzero (reverse l.levels) ≡ take l.count l.found ++ filter is_nonzero (reverse (take l.left l.levels));
  places : places_of (reverse l.levels) ≡ take l.count l.places ++ places_of (reverse (take l.left l.levels));
}

abbrev pub decreases-loop-left : goal.decreases-loop-left
decreases-loop-left l = l.left
