use Rattle.param_sets.proofs.SetLaws.{one_sps}
use Rattle.param_sets.proofs.laws.one_sps_per_payload.Goals as goal

pub returns : goal.returns
returns c = one_sps
