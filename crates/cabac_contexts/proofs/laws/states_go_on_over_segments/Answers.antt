use Rattle.cabac_contexts.proofs.Steps.{state_of-append}
use Rattle.cabac_contexts.proofs.laws.states_go_on_over_segments.Goals as goal

pub returns : goal.returns
returns c = state_of-append
