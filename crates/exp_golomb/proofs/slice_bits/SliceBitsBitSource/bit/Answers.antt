use Rattle.std.proofs.Common.{arith}
use Rattle.exp_golomb.proofs.Places.{none_left, next_bit_left}
use Rattle.exp_golomb.proofs.slice_bits.SliceBitsBitSource.bit.Goals as goal

pub returns-then-self-clause-bit : goal.returns-then-self-clause-bit
returns-then-self-clause-bit c =
    let none = none_left c.self.inside.place c.self.inside.used c.self.inside.bytes.now c.args.self.now c.self.view_is c.if-self.true in
    (none, none)

pub returns-then-self-eq7-clause-bit : goal.returns-then-self-eq7-clause-bit
returns-then-self-eq7-clause-bit c = next_bit_left c.self.inside.place c.self.inside.used _ _ c.args.self.now c.self.view_is c.self.invariant.0 (omega (arith, c.self.invariant, c.if-self.false)) (omega (arith, c.if-self-eq7.true))

pub returns-else-self-eq7-clause-bit : goal.returns-else-self-eq7-clause-bit
returns-else-self-eq7-clause-bit c = next_bit_left c.self.inside.place c.self.inside.used _ _ c.args.self.now c.self.view_is c.self.invariant.0 (omega (arith, c.self.invariant, c.if-self.false)) (omega arith)
