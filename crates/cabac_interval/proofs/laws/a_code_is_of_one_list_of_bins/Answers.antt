use Rattle.cabac_interval.proofs.Lists.{same_bins}
use Rattle.cabac_interval.proofs.laws.a_code_is_of_one_list_of_bins.Goals as goal

pub returns : goal.returns
returns c = same_bins
