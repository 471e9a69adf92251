use Rattle.std.proofs.Common.{◌≡◌, ◌-◌, ◌≤◌, [], reverse, false}
use Rattle.arrayvec.specs.ArrayVec.{array_vec_len}
use Rattle.binarisation.proofs.Strings.{Continues}
use Rattle.cabac_residual.specs.Block.{marks_from, marks_below, AreBelow}
use Rattle.cabac_residual.proofs.marks.read_places.Given as goal

abbrev pub invariant-loop-place : goal.invariant-loop-place
invariant-loop-place g l = record {
  going : g.S.BinSource.over l.s ≡ false;
  count : array_vec_len l.places ≤ l.place;
  below : AreBelow l.place (reverse l.places.items);
  reads : Continues g.S.BinSource.step (marks_from l.cat l.field [] 0 (l.max - 1)) l.fn.s (marks_from l.cat l.field (marks_below l.place (reverse l.places.items)) l.place (l.max - 1 - l.place)) l.s;
}

abbrev pub decreases-loop-place : goal.decreases-loop-place
decreases-loop-place g l = l.max - 1 - l.place
