use Rattle.std.proofs.Common.{◌≤◌, drop}
use Rattle.bit_texts.specs.Texts.{Wrote}
use Rattle.cavlc_residual.specs.Coefficients.{coefficients_text, AreCoefficients}
use Rattle.cavlc_residual.proofs.writing.write_coefficients.Given as goal

abbrev pub invariant-loop-i : goal.invariant-loop-i
invariant-loop-i g l = record {
  small : l.suffix_length ≤ 6;
  levels : AreCoefficients 20 l.suffix_length l.extra (drop l.i l.levels);
  wrote : Wrote (g.B.BitSink.bits l.initial.b) (g.B.BitSink.bits l.b) (coefficients_text l.initial.suffix_length l.initial.extra l.levels) (coefficients_text l.suffix_length l.extra (drop l.i l.levels));
}
