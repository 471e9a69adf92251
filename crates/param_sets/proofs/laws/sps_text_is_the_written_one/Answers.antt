use Rattle.param_sets.proofs.SpsFound.{text_of_read}
use Rattle.param_sets.proofs.laws.sps_text_is_the_written_one.Goals as goal

pub returns : goal.returns
returns c = text_of_read
