use Rattle.std.proofs.Common.{◌≡◌, refl}
use Rattle.param_sets.specs.SpsCodes.{IsSps}
use Rattle.param_sets.proofs.SetMapLaws.{all_put}
use Rattle.param_sets.proofs.sets.Sets.put_sps.Goals as goal

pub invariant_of-self-2 : goal.invariant_of-self-2
invariant_of-self-2 c = (rw c.in_ok-insert.ensures.entries (all_put (λ e. IsSps e.1 × (e.1.seq_parameter_set_id ≡ e.0)) c.args.sps.seq_parameter_set_id c.args.sps c.self.inside.sps.entries c.self.invariant.0 (c.requires, refl)), c.self.invariant.1)
