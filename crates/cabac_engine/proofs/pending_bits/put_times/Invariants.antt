use Rattle.std.proofs.Common.{◌≡◌, ◌++◌, replicate}
use Rattle.cabac_engine.proofs.pending_bits.put_times.Given as goal

abbrev pub invariant-loop-i : goal.invariant-loop-i
invariant-loop-i g l = g.B.BitSink.bits l.sink ≡ g.B.BitSink.bits l.initial.sink ++ replicate l._i l.bit
