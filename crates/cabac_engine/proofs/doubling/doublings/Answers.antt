use Rattle.cabac_engine.proofs.Doublings.{counted_doublings}
use Rattle.cabac_engine.proofs.doubling.doublings.Goals as goal

pub returns : goal.returns
returns c = counted_doublings c.args.range c.requires.some c.requires.nine_bits
