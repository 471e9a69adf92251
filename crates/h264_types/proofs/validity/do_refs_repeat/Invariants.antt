use Rattle.std.proofs.Common.{◌≡◌, ℕ, ◌<◌}
use Rattle.h264_types.specs.Partition.{partition_of}
use Rattle.h264_types.specs.Valid.{ref_at}
use Rattle.h264_types.proofs.validity.do_refs_repeat.Given as goal

abbrev pub invariant-loop-q : goal.invariant-loop-q
invariant-loop-q l =
    (q : ℕ) → q < l.q
    → (r : ℕ) → r < 4 → partition_of l.mb.kind q ≡ partition_of l.mb.kind r → ref_at l.mb l.list q ≡ ref_at l.mb l.list r
