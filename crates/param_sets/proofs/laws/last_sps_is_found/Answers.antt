use Rattle.param_sets.proofs.SetMapLaws.{last_found}
use Rattle.param_sets.proofs.laws.last_sps_is_found.Goals as goal

pub returns : goal.returns
returns c = λ number sps sets. last_found number sps.seq_parameter_set_id sps sets.sps
