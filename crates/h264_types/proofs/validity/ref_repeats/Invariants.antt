use Rattle.std.proofs.Common.{◌≡◌, ℕ, ◌<◌}
use Rattle.h264_types.specs.Partition.{partition_of}
use Rattle.h264_types.specs.Valid.{ref_at}
use Rattle.h264_types.proofs.validity.ref_repeats.Given as goal

abbrev pub invariant-loop-r : goal.invariant-loop-r
invariant-loop-r l =
    (r : ℕ) → r < l.r → partition_of l.mb.kind l.quarter ≡ partition_of l.mb.kind r
    → ref_at l.mb l.list l.quarter ≡ ref_at l.mb l.list r
