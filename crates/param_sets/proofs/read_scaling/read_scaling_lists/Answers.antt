use Rattle.std.proofs.Common.{◌≡◌, ◌-◌, arith}
use Rattle.std.proofs.lemmas.Result.{err_from_is_err_and}
use Rattle.exp_golomb.proofs.Series.{series_goes_on, series_ends, prepended_none}
use Rattle.param_sets.specs.ScalingLists.{scaling_list, scaling_lists, entries_of}
use Rattle.param_sets.proofs.Loops.{series_fails}
use Rattle.param_sets.proofs.read_scaling.read_scaling_lists.Goals as goal

pub loop-place-init : goal.loop-place-init
unfolding scaling_lists
loop-place-init g c =
    let all : c.args.count - 0 ≡ c.args.count = omega arith in
    rw (c.new-lists.ensures.items, all) (prepended_none _)

pub returns-in_err-list : goal.returns-in_err-list
returns-in_err-list g c =
    let p = err_from_is_err_and c.from_residual.result c.from_residual.ensures.1 in
    let failed = rw c.entries_at.ensures at c.in_err-list.ensures in
    rw (p.1, p.2) (series_fails c.in_err-list.field-0.0 c.loop-place.lists.items c.args.count c.loop-place.place (λ place. scaling_list (entries_of place)) _ _ c.loop-place-test.true failed c.loop-place.invariant)

pub loop-place-preserved : goal.loop-place-preserved
loop-place-preserved g c =
    let found = rw c.entries_at.ensures at c.in_ok-list.ensures in
    rw c.in_ok-push.ensures.items (series_goes_on c.loop-place.lists.items c.args.count c.loop-place.place (λ place. scaling_list (entries_of place)) _ _ c.in_ok-list.list _ c.loop-place-test.true found c.loop-place.invariant)

pub returns : goal.returns
returns g c = rw c.new.ensures (series_ends c.loop-place.lists.items c.args.count c.loop-place.place (λ place. scaling_list (entries_of place)) _ _ c.loop-place-test.false c.loop-place.invariant)
