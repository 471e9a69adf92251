use Rattle.std.proofs.Common.{◌≡◌, ◌∙◌, refl, ◌-◌, arith, rules, w32, to_z, of_z, pos, negsuc}
use Rattle.std.proofs.lemmas.Int.{to_z-of_z}
use Rattle.std.proofs.lemmas.Result.{err_from_is_err_and}
use Rattle.exp_golomb.specs.Code.{Se}
use Rattle.exp_golomb.proofs.Series.{series_goes_on, series_ends, series_cut, prepended_none}
use Rattle.header_parts.specs.Picture.{delta_pic_order_cnt}
use Rattle.header_parts.proofs.Loops.{element_found, element_absent}
use Rattle.header_parts.proofs.read_parts.read_deltas.Goals as goal

pub loop-place-init : goal.loop-place-init
loop-place-init g c =
    let all : c.args.count - 0 ≡ c.args.count = omega arith in
    record { reads = rw (c.new-deltas.ensures.items, all) (prepended_none _); kept = refl }

pub returns-in_err-delta-clause-answers : goal.returns-in_err-delta-clause-answers
returns-in_err-delta-clause-answers g c =
    let p = err_from_is_err_and c.from_residual.result c.from_residual.ensures.1 in
    rw (p.1, p.2, c.in_err-delta.ensures.reads.0) (series_cut c.loop-place.deltas.items c.args.count c.loop-place._place (λ place. delta_pic_order_cnt) _ _ c.loop-place-test.true (element_absent (Se (negsuc 2147483646) (pos 2147483647)) _ c.in_err-delta.ensures.reads.1) c.loop-place.invariant.reads)

pub loop-place-preserved : goal.loop-place-preserved
loop-place-preserved g c =
    let same : to_z w32 (of_z w32 c.in_ok-delta.delta) ≡ c.in_ok-delta.delta = to_z-of_z w32 c.in_ok-delta.delta (search rules) in
    let pushed = rw same at c.in_ok-push.ensures.items in
    let found = element_found (Se (negsuc 2147483646) (pos 2147483647)) _ _ c.in_ok-delta.delta c.in_ok-delta.ensures.reads in
    record { reads = rw pushed (series_goes_on c.loop-place.deltas.items c.args.count c.loop-place._place (λ place. delta_pic_order_cnt) _ _ c.in_ok-delta.delta _ c.loop-place-test.true found c.loop-place.invariant.reads); kept = c.in_ok-delta.ensures.kept ∙ c.loop-place.invariant.kept }

pub returns-clause-answers : goal.returns-clause-answers
returns-clause-answers g c = rw c.new.ensures (series_ends c.loop-place.deltas.items c.args.count c.loop-place._place (λ place. delta_pic_order_cnt) _ _ c.loop-place-test.false c.loop-place.invariant.reads)
