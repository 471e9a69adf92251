use Rattle.param_sets.proofs.SetMapLaws.{last_found}
use Rattle.param_sets.proofs.laws.last_pps_is_found.Goals as goal

pub returns : goal.returns
returns c = λ number pps sets. last_found number pps.pic_parameter_set_id pps sets.pps
