use Rattle.cabac_engine.proofs.Taken.{next_of_code}
use Rattle.cabac_engine.proofs.laws.a_code_gives_its_next_bin.Goals as goal

pub returns : goal.returns
returns c = next_of_code
