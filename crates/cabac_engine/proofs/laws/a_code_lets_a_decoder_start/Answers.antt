use Rattle.cabac_engine.proofs.Taken.{first_nine}
use Rattle.cabac_engine.proofs.laws.a_code_lets_a_decoder_start.Goals as goal

pub returns : goal.returns
returns c = first_nine
