use Rattle.std.proofs.Common.{arith}
use Rattle.exp_golomb.proofs.Places.{length-left}
use Rattle.exp_golomb.proofs.slice_bits.SliceBitsBitSource.ready.Goals as goal

pub returns-then-bytes-gt8 : goal.returns-then-bytes-gt8
returns-then-bytes-gt8 c = omega (arith, length-left _ c.self.inside.bytes.now c.args.self.now c.self.view_is, c.if-bytes-gt8.true, c.self.invariant)

pub returns : goal.returns
returns c = omega (arith, length-left _ c.self.inside.bytes.now c.args.self.now c.self.view_is, c.if-bytes-gt8.false, c.self.invariant)
