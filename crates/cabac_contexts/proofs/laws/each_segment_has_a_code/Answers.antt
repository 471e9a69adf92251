use Rattle.cabac_contexts.proofs.OpenBins.{segment_has_code}
use Rattle.cabac_contexts.proofs.laws.each_segment_has_a_code.Goals as goal

pub returns : goal.returns
returns c = segment_has_code
