use Rattle.cabac_engine.proofs.Taken.{code_taken}
use Rattle.cabac_engine.proofs.laws.an_ended_segment_took_its_code.Goals as goal

pub returns : goal.returns
returns c = code_taken
