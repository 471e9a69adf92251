use Rattle.cabac_contexts.proofs.OpenBins.{starting_are, states_after}
use Rattle.cabac_contexts.proofs.laws.states_are_at_most_63.Goals as goal

pub returns-clause-first : goal.returns-clause-first
returns-clause-first c = starting_are

pub returns-clause-behind : goal.returns-clause-behind
returns-clause-behind c = states_after
