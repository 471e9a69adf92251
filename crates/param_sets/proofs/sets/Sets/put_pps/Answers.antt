use Rattle.std.proofs.Common.{◌≡◌, refl}
use Rattle.param_sets.specs.PpsCodes.{IsPps}
use Rattle.param_sets.proofs.SetMapLaws.{all_put}
use Rattle.param_sets.proofs.sets.Sets.put_pps.Goals as goal

pub invariant_of-self-2 : goal.invariant_of-self-2
invariant_of-self-2 c = (c.self.invariant.0, rw c.in_ok-insert.ensures.entries (all_put (λ e. IsPps e.1 × (e.1.pic_parameter_set_id ≡ e.0)) c.args.pps.pic_parameter_set_id c.args.pps c.self.inside.pps.entries c.self.invariant.1 (c.requires, refl)))
