use Rattle.cabac_contexts.proofs.Segments.{taken_bins}
use Rattle.cabac_contexts.proofs.laws.steps_take_their_bins.Goals as goal

pub returns : goal.returns
returns c = taken_bins
