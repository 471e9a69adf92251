use Rattle.std.proofs.Common.{ℕ, ◌<◌}
use Rattle.h264_types.specs.Valid.{MvdRepeats}
use Rattle.h264_types.proofs.validity.do_mvd_repeat.Given as goal

abbrev pub invariant-loop-n : goal.invariant-loop-n
invariant-loop-n l = (n : ℕ) → n < l.n → MvdRepeats l.mb l.list n
