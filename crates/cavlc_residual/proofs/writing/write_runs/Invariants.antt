use Rattle.std.proofs.Common.{◌≤◌, ◌-◌, sum, drop}
use Rattle.bit_texts.specs.Texts.{Wrote}
use Rattle.cavlc_residual.specs.Block.{runs_text}
use Rattle.cavlc_residual.specs.Places.{gaps}
use Rattle.cavlc_residual.proofs.writing.write_runs.Given as goal

abbrev pub invariant-loop-i : goal.invariant-loop-i
invariant-loop-i g l = record {
  fits : sum (drop (l.i - 1) (gaps l.places)) ≤ l.left;
  wrote : Wrote (g.B.BitSink.bits l.initial.b) (g.B.BitSink.bits l.b) (runs_text l.zeros (gaps l.places)) (runs_text l.left (drop (l.i - 1) (gaps l.places)));
}
