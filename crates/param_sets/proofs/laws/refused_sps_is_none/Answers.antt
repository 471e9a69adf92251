use Rattle.param_sets.proofs.SetLaws.{refused_sps}
use Rattle.param_sets.proofs.laws.refused_sps_is_none.Goals as goal

pub returns : goal.returns
returns c = refused_sps
