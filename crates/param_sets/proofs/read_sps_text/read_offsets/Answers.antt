use Rattle.std.proofs.Common.{◌≡◌, ◌-◌, arith, rules, w32, to_z, of_z, pos, negsuc}
use Rattle.std.proofs.lemmas.Int.{to_z-of_z}
use Rattle.std.proofs.lemmas.Result.{err_from_is_err_and}
use Rattle.exp_golomb.specs.Code.{Se}
use Rattle.exp_golomb.proofs.Series.{series_goes_on, series_ends, series_cut, prepended_none}
use Rattle.param_sets.specs.SequenceParameterSet.{offset_for_ref_frame, offsets}
use Rattle.param_sets.proofs.Loops.{element_found, element_absent}
use Rattle.param_sets.proofs.read_sps_text.read_offsets.Goals as goal

pub loop-place-init : goal.loop-place-init
unfolding offsets
loop-place-init g c =
    let all : c.args.count - 0 ≡ c.args.count = omega arith in
    rw (c.new-offsets.ensures.items, all) (prepended_none _)

pub returns-in_err-offset : goal.returns-in_err-offset
returns-in_err-offset g c =
    let p = err_from_is_err_and c.from_residual.result c.from_residual.ensures.1 in
    rw (p.1, p.2, c.in_err-offset.ensures.0) (series_cut c.loop-place.offsets.items c.args.count c.loop-place._place (λ place. offset_for_ref_frame) _ _ c.loop-place-test.true (element_absent (Se (negsuc 2147483646) (pos 2147483647)) _ c.in_err-offset.ensures.1) c.loop-place.invariant)

pub loop-place-preserved : goal.loop-place-preserved
loop-place-preserved g c =
    let same : to_z w32 (of_z w32 c.in_ok-offset.offset) ≡ c.in_ok-offset.offset = to_z-of_z w32 c.in_ok-offset.offset (search rules) in
    let pushed = rw same at c.in_ok-push.ensures.items in
    let found = element_found (Se (negsuc 2147483646) (pos 2147483647)) _ _ c.in_ok-offset.offset c.in_ok-offset.ensures in
    rw pushed (series_goes_on c.loop-place.offsets.items c.args.count c.loop-place._place (λ place. offset_for_ref_frame) _ _ c.in_ok-offset.offset _ c.loop-place-test.true found c.loop-place.invariant)

pub returns : goal.returns
returns g c = rw c.new.ensures (series_ends c.loop-place.offsets.items c.args.count c.loop-place._place (λ place. offset_for_ref_frame) _ _ c.loop-place-test.false c.loop-place.invariant)
