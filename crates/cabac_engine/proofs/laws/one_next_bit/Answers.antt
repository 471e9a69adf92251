use Rattle.cabac_interval.proofs.Lists.{same_next}
use Rattle.cabac_engine.proofs.laws.one_next_bit.Goals as goal

pub returns : goal.returns
returns c = same_next
