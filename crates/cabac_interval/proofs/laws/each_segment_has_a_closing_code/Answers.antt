use Rattle.cabac_interval.proofs.Closing.{has_closing}
use Rattle.cabac_interval.proofs.laws.each_segment_has_a_closing_code.Goals as goal

pub returns : goal.returns
returns c = has_closing
