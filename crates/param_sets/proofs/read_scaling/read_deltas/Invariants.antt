use Rattle.std.proofs.Common.{◌≡◌, ◌-◌}
use Rattle.exp_golomb.specs.Syntax.{outcome_of}
use Rattle.exp_golomb.proofs.Series.{prepended}
use Rattle.param_sets.specs.ScalingLists.{deltas}
use Rattle.param_sets.proofs.read_scaling.read_deltas.Given as goal

abbrev pub invariant-loop-i : goal.invariant-loop-i
invariant-loop-i g l =
    let left = g.B.BitSource.left in
    prepended l.deltas.items (outcome_of (deltas (l.entries - l._i) l.last) (left l.bits)) ≡ outcome_of (deltas l.entries 8) (left l.fn.bits)
