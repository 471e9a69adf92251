use Rattle.std.proofs.Common.{ℕ, ◌<◌}
use Rattle.h264_types.specs.Valid.{IsPair}
use Rattle.h264_types.proofs.validity.are_pairs.Given as goal

abbrev pub invariant-loop-pair : goal.invariant-loop-pair
invariant-loop-pair l = (pair : ℕ) → pair < l.pair → IsPair l.shape l.mbs pair
