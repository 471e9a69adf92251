use Rattle.std.proofs.Common.{◌≡◌, ◌++◌, length}
use Rattle.cavlc_residual.proofs.PlaceLemmas.{RunsPlaced}
use Rattle.cavlc_residual.proofs.runs.read_runs.Given as goal

abbrev pub invariant-loop-i : goal.invariant-loop-i
invariant-loop-i g l = record {
  placed : RunsPlaced l.levels l.zeros (length l.initial.block) l.i l.left (g.B.BitSource.left l.initial.b) (g.B.BitSource.left l.b) l.block;
  kept : g.B.BitSource.taken l.b ++ g.B.BitSource.left l.b ≡ g.B.BitSource.taken l.initial.b ++ g.B.BitSource.left l.initial.b;
}
