use Rattle.std.proofs.Common.{rules}
use Rattle.cabac_contexts.proofs.StartingStates.{pre_state-is}
use Rattle.cabac_contexts.proofs.contexts.pre_ctx_state.Goals as goal

pub returns-clause-value : goal.returns-clause-value
returns-clause-value c =
    pre_state-is c.args.pair c.args.qp c.from.result c.from-2.result c.from-3.result c.clamp.result (search rules) (search rules) c.requires
    c.from.ensures c.from-2.ensures c.from-3.ensures c.clamp.ensures.lower_bound c.clamp.ensures.upper_bound c.clamp.ensures.value
