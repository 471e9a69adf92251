use Rattle.std.proofs.Common.{ℕ, ◌<◌}
use Rattle.h264_types.specs.Valid.{IsQuarterCoded}
use Rattle.h264_types.proofs.validity.are_quarters_coded.Given as goal

abbrev pub invariant-loop-q : goal.invariant-loop-q
invariant-loop-q l = (q : ℕ) → q < l.q → IsQuarterCoded l.mb q
