use Rattle.param_sets.proofs.PpsTexts.{read_again}
use Rattle.param_sets.proofs.laws.pps_is_read_from_its_text.Goals as goal

pub returns : goal.returns
returns c = read_again
