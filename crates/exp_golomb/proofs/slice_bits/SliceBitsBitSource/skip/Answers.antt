use Rattle.std.proofs.Common.{arith, refl}
use Rattle.exp_golomb.proofs.Places.{skipped, length-left}
use Rattle.exp_golomb.proofs.slice_bits.SliceBitsBitSource.skip.Goals as goal

pub returns-then-from-self-clause-skipped : goal.returns-then-from-self-clause-skipped
returns-then-from-self-clause-skipped c =
    let size = length-left _ c.self.inside.bytes.now c.args.self.now c.self.view_is in
    (omega (arith, size, c.from.ensures, c.if-from-self.true, c.self.invariant), refl)

pub returns-clause-skipped : goal.returns-clause-skipped
returns-clause-skipped c =
    let size = length-left _ c.self.inside.bytes.now c.args.self.now c.self.view_is in (
      omega (arith, size, c.from.ensures, c.if-from-self.false, c.self.invariant),
      skipped c.self.inside.place c.self.inside.used c.args.n c.from-2.result c.self.inside.bytes.now c.args.self.now c.self.view_is c.from-2.ensures,
    )
