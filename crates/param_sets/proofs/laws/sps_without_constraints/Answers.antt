use Rattle.param_sets.proofs.SetLaws.{sps_unconstrained}
use Rattle.param_sets.proofs.laws.sps_without_constraints.Goals as goal

pub returns : goal.returns
returns c = sps_unconstrained
