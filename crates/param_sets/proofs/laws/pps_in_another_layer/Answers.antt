use Rattle.param_sets.proofs.SetLaws.{pps_moved}
use Rattle.param_sets.proofs.laws.pps_in_another_layer.Goals as goal

pub returns : goal.returns
returns c = pps_moved
