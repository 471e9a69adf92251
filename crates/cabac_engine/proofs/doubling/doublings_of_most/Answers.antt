use Rattle.std.proofs.Common.{◌∙◌}
use Rattle.cabac_engine.proofs.Doublings.{doublings_are}
use Rattle.cabac_engine.proofs.doubling.doublings_of_most.Goals as goal

pub returns : goal.returns
returns c = c.from.ensures ∙ doublings_are c.args.range c.requires.many c.requires.nine_bits
