use Rattle.cabac_contexts.proofs.Segments.{kept}
use Rattle.cabac_contexts.proofs.laws.steps_keep_the_bits.Goals as goal

pub returns : goal.returns
returns c = kept
