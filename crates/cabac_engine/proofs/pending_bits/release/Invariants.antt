use Rattle.std.proofs.Common.{◌≡◌, ◌++◌, replicate, sum, vec_len}
use Rattle.cabac_engine.proofs.pending_bits.release.Given as goal

-- what is appended, with what is still outstanding, is all that was outstanding
abbrev pub invariant-loop-count : goal.invariant-loop-count
invariant-loop-count g l =
    g.B.BitSink.bits l.sink ++ replicate (sum l.outstanding.items) l.bit ≡ g.B.BitSink.bits l.initial.sink ++ replicate (sum l.initial.outstanding.items) l.bit

abbrev pub decreases-loop-count : goal.decreases-loop-count
decreases-loop-count g l = vec_len l.outstanding
