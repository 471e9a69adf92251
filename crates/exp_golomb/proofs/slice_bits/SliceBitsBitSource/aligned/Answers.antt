use Rattle.exp_golomb.proofs.Places.{aligned_at}
use Rattle.exp_golomb.proofs.slice_bits.SliceBitsBitSource.aligned.Goals as goal

pub returns : goal.returns
returns c = aligned_at c.self.inside.place c.self.inside.used c.self.inside.bytes.now c.args.self.now c.self.view_is c.self.invariant.0 c.self.invariant.1
