use Rattle.cabac_engine.proofs.Taken.{taken}
use Rattle.cabac_engine.proofs.laws.the_bits_taken_lie_in_the_interval.Goals as goal

pub returns : goal.returns
returns c = taken
