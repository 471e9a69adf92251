use Rattle.std.proofs.Common.{ℕ, ◌<◌}
use Rattle.h264_types.specs.Valid.{IsWithin, mvd_bound, mvd_of}
use Rattle.h264_types.proofs.validity.are_mvd.Given as goal

abbrev pub invariant-loop-n : goal.invariant-loop-n
invariant-loop-n l = (n : ℕ) → n < l.n → IsWithin (mvd_bound l.mb l.list n) (mvd_of l.mb l.list n)
