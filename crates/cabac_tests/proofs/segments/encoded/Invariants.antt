use Rattle.std.proofs.Common.{◌≤◌}
use Rattle.cabac_tests.proofs.segments.encoded.Given as goal

abbrev pub invariant-loop-bin : goal.invariant-loop-bin
invariant-loop-bin l = 256 ≤ l.encoder.range
