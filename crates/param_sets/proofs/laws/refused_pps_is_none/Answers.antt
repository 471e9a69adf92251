use Rattle.param_sets.proofs.SetLaws.{refused_pps}
use Rattle.param_sets.proofs.laws.refused_pps_is_none.Goals as goal

pub returns : goal.returns
returns c = refused_pps
