use Rattle.std.proofs.Common.{◌≡◌, rules, w32, to_z, of_z}
use Rattle.std.proofs.lemmas.Int.{to_z-of_z}
use Rattle.std.proofs.lemmas.Result.{err_from_is_err_and}
use Rattle.param_sets.proofs.Loops.{deltas_go_on, deltas_stop, deltas_cut, deltas_end, delta_range}
use Rattle.param_sets.proofs.read_scaling.read_deltas.Goals as goal

pub returns-in_err-delta : goal.returns-in_err-delta
returns-in_err-delta g c =
    let p = err_from_is_err_and c.from_residual.result c.from_residual.ensures.1 in
    rw (p.1, p.2, c.in_err-delta.ensures.0) (deltas_cut c.loop-i.deltas.items c.args.entries c.loop-i._i c.loop-i.last _ _ c.loop-i-test.true c.in_err-delta.ensures.1 c.loop-i.invariant)

pub scale_after-last-requires-clause-least : goal.scale_after-last-requires-clause-least
scale_after-last-requires-clause-least g c =
    let same : to_z w32 (of_z w32 c.in_ok-delta.delta) ≡ c.in_ok-delta.delta = to_z-of_z w32 c.in_ok-delta.delta (search rules) in
    rw same (delta_range _ _ c.in_ok-delta.delta c.in_ok-delta.ensures).0

pub scale_after-last-requires-clause-most : goal.scale_after-last-requires-clause-most
scale_after-last-requires-clause-most g c =
    let same : to_z w32 (of_z w32 c.in_ok-delta.delta) ≡ c.in_ok-delta.delta = to_z-of_z w32 c.in_ok-delta.delta (search rules) in
    rw same (delta_range _ _ c.in_ok-delta.delta c.in_ok-delta.ensures).1

pub returns-then-last-eq0 : goal.returns-then-last-eq0
returns-then-last-eq0 g c =
    let same : to_z w32 (of_z w32 c.in_ok-delta.delta) ≡ c.in_ok-delta.delta = to_z-of_z w32 c.in_ok-delta.delta (search rules) in
    let next = rw same at c.scale_after-last.ensures in
    let pushed = rw same at c.in_ok-push.ensures.items in
    rw (c.new.ensures, pushed) (deltas_stop c.loop-i.deltas.items c.args.entries c.loop-i._i c.loop-i.last c.scale_after-last.result _ _ c.in_ok-delta.delta _ c.loop-i-test.true c.in_ok-delta.ensures next c.if-last-eq0.true c.loop-i.invariant)

pub loop-i-preserved : goal.loop-i-preserved
loop-i-preserved g c =
    let same : to_z w32 (of_z w32 c.in_ok-delta.delta) ≡ c.in_ok-delta.delta = to_z-of_z w32 c.in_ok-delta.delta (search rules) in
    let next = rw same at c.scale_after-last.ensures in
    let pushed = rw same at c.in_ok-push.ensures.items in
    rw pushed (deltas_go_on c.loop-i.deltas.items c.args.entries c.loop-i._i c.loop-i.last c.scale_after-last.result _ _ c.in_ok-delta.delta _ c.loop-i-test.true c.in_ok-delta.ensures next c.if-last-eq0.false c.loop-i.invariant)

pub returns : goal.returns
returns g c = rw c.new-2.ensures (deltas_end c.loop-i.deltas.items c.args.entries c.loop-i._i c.loop-i.last _ _ c.loop-i-test.false c.loop-i.invariant)
