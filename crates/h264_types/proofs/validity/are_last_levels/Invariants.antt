use Rattle.std.proofs.Common.{ℕ, ◌<◌, ◌≤◌, ◌+◌, ◌*◌, slice_index_or, unsigned_abs, pos}
use Rattle.h264_types.specs.Macroblock.{quarter_of}
use Rattle.h264_types.proofs.validity.are_last_levels.Given as goal

abbrev pub invariant-loop-k : goal.invariant-loop-k
invariant-loop-k l =
    (k : ℕ) → k < l.k
    → unsigned_abs (slice_index_or (quarter_of l.mb l.quarter) (16 * k + 15) (pos 0)) ≤ l.bound
