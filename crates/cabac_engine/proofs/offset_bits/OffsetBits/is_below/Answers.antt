use Rattle.std.proofs.Common.{ap, arith}
use Rattle.cabac_engine.specs.OffsetBits.{Offset}
use Rattle.cabac_engine.proofs.Offsets.{compared}
use Rattle.cabac_engine.proofs.offset_bits.OffsetBits.is_below.Goals as goal

pub returns : goal.returns
returns g c = rw c.from.ensures (compared c.self.inside.value c.self.inside.ready c.args.range c.args.self.now.offset (omega (arith, c.requires)) (omega (arith, c.self.invariant)) (ap (λ (o : Offset). o.offset) c.self.view_is))
