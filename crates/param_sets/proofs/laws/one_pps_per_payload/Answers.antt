use Rattle.param_sets.proofs.SetLaws.{one_pps}
use Rattle.param_sets.proofs.laws.one_pps_per_payload.Goals as goal

pub returns : goal.returns
returns c = one_pps
