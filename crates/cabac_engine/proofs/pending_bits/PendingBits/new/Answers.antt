use Rattle.std.proofs.Common.{ap, arith, refl, sum}
use Rattle.cabac_engine.proofs.Carries.{plain_is}
use Rattle.cabac_engine.proofs.pending_bits.PendingBits.new.Goals as goal

pub returns-clause-bits : goal.returns-clause-bits
returns-clause-bits g c = plain_is (g.B.BitSink.bits c.args.sink) 0 0 (sum c.new.result.items) refl (omega arith) (ap sum c.new.ensures.items)
