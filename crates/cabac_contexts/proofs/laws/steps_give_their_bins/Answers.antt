use Rattle.cabac_contexts.proofs.Segments.{given}
use Rattle.cabac_contexts.proofs.laws.steps_give_their_bins.Goals as goal

pub returns : goal.returns
returns c = given
