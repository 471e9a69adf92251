use Rattle.std.proofs.Common.{arith}
use Rattle.exp_golomb.proofs.Places.{last_in_byte, last_of_byte}
use Rattle.exp_golomb.proofs.slice_bits.SliceBitsBitSource.last_taken.Goals as goal

pub returns-then-self-gt0 : goal.returns-then-self-gt0
returns-then-self-gt0 c = last_in_byte c.self.inside.place c.self.inside.used c.self.inside.bytes.now c.args.self.now c.self.view_is c.if-self-gt0.true c.self.invariant.0 (omega (arith, c.self.invariant, c.if-self-gt0.true))

pub returns-then-self-gt0-2 : goal.returns-then-self-gt0-2
returns-then-self-gt0-2 c = last_of_byte c.self.inside.place c.self.inside.used c.self.inside.bytes.now c.args.self.now c.self.view_is c.if-self-gt0.false c.if-self-gt0-2.true (omega (arith, c.self.invariant))
