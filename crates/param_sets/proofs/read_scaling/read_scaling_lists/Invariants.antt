use Rattle.std.proofs.Common.{◌≡◌, ◌-◌}
use Rattle.exp_golomb.specs.Syntax.{outcome_of, series}
use Rattle.exp_golomb.proofs.Series.{prepended}
use Rattle.param_sets.specs.ScalingLists.{scaling_list, scaling_lists, entries_of}
use Rattle.param_sets.proofs.read_scaling.read_scaling_lists.Given as goal

abbrev pub invariant-loop-place : goal.invariant-loop-place
invariant-loop-place g l =
    let left = g.B.BitSource.left in
    prepended l.lists.items (outcome_of (series (l.count - l.place) l.place (λ place. scaling_list (entries_of place))) (left l.bits)) ≡ outcome_of (scaling_lists l.count) (left l.fn.bits)
