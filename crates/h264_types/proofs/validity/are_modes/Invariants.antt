use Rattle.std.proofs.Common.{ℕ, ◌<◌, ◌≤◌, slice_index}
use Rattle.h264_types.specs.Valid.{mode_bound}
use Rattle.h264_types.proofs.validity.are_modes.Given as goal

abbrev pub invariant-loop-k : goal.invariant-loop-k
invariant-loop-k l = (k : ℕ) → k < l.k → slice_index l.mb.modes k ≤ mode_bound l.mb k
