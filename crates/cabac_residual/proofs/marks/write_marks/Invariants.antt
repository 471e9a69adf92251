use Rattle.std.proofs.Common.{◌≡◌, ◌-◌, [], length, false}
use Rattle.binarisation.proofs.Strings.{Completes}
use Rattle.cabac_residual.specs.Block.{marks_from, marks_of}
use Rattle.cabac_residual.proofs.marks.write_marks.Given as goal

abbrev pub invariant-loop-place : goal.invariant-loop-place
invariant-loop-place g l = record {
  going : g.S.BinSink.over l.s ≡ false;
  writes : Completes g.S.BinSink.step (marks_from l.cat l.field [] 0 (length l.levels - 1)) l.fn.s (marks_from l.cat l.field (marks_of l.place l.levels) l.place (length l.levels - 1 - l.place)) l.s;
}
