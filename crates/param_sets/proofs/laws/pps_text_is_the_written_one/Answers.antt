use Rattle.param_sets.proofs.PpsTexts.{text_of_read}
use Rattle.param_sets.proofs.laws.pps_text_is_the_written_one.Goals as goal

pub returns : goal.returns
returns c = text_of_read
