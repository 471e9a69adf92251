use Rattle.std.proofs.Common.{◌≡◌}
use Rattle.param_sets.specs.SpsCodes.{IsSps}
use Rattle.param_sets.proofs.SetMapLaws.{found_lent}
use Rattle.param_sets.proofs.sets.Sets.sps.Goals as goal

pub returns-clause-in_range : goal.returns-clause-in_range
returns-clause-in_range c = found_lent (λ set number. IsSps set × (set.seq_parameter_set_id ≡ number)) IsSps _ c.args.n _ _ c.self.invariant.0 c.get.ensures.value c.from.ensures (λ set h. h.0)

pub returns-clause-number : goal.returns-clause-number
returns-clause-number c = found_lent (λ set number. IsSps set × (set.seq_parameter_set_id ≡ number)) (λ set. set.seq_parameter_set_id ≡ c.args.n) _ c.args.n _ _ c.self.invariant.0 c.get.ensures.value c.from.ensures (λ set h. h.1)
