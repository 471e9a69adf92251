use Rattle.std.proofs.Common.{◌≡◌, ℕ, ◌<◌}
use Rattle.h264_types.specs.Partition.{part_of}
use Rattle.h264_types.specs.Valid.{mvd_of}
use Rattle.h264_types.proofs.validity.mvd_repeats.Given as goal

abbrev pub invariant-loop-m : goal.invariant-loop-m
invariant-loop-m l =
    (m : ℕ) → m < l.m → part_of l.mb.kind l.mb.subs l.block ≡ part_of l.mb.kind l.mb.subs m
    → mvd_of l.mb l.list l.block ≡ mvd_of l.mb l.list m
