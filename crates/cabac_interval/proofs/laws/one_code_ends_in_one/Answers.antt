use Rattle.cabac_interval.proofs.Lists.{same_closing}
use Rattle.cabac_interval.proofs.laws.one_code_ends_in_one.Goals as goal

pub returns : goal.returns
returns c = same_closing
