use Rattle.std.proofs.Common.{ℕ, ◌<◌, ◌≤◌}
use Rattle.h264_types.specs.Valid.{ref_at, ref_bound}
use Rattle.h264_types.proofs.validity.are_refs.Given as goal

abbrev pub invariant-loop-q : goal.invariant-loop-q
invariant-loop-q l = (q : ℕ) → q < l.q → ref_at l.mb l.list q ≤ ref_bound l.shape l.mb l.list q
