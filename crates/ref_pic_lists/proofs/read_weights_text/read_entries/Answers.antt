use Rattle.std.proofs.Common.{◌≡◌, ◌∙◌, refl, ◌-◌, arith}
use Rattle.std.proofs.lemmas.Result.{err_from_is_err_and}
use Rattle.exp_golomb.proofs.Series.{series_goes_on, series_ends, prepended_none}
use Rattle.ref_pic_lists.specs.PredWeightTable.{entry}
use Rattle.ref_pic_lists.proofs.Entries.{series_fails}
use Rattle.ref_pic_lists.proofs.read_weights_text.read_entries.Goals as goal

pub loop-place-init : goal.loop-place-init
loop-place-init g c =
    let all : c.args.count - 0 ≡ c.args.count = omega arith in
    record { reads = rw (c.new-read.ensures.items, all) (prepended_none _); kept = refl }

pub returns-in_err-one-clause-answers : goal.returns-in_err-one-clause-answers
returns-in_err-one-clause-answers g c =
    let p = err_from_is_err_and c.from_residual.result c.from_residual.ensures.1 in
    rw (p.1, p.2) (series_fails c.in_err-one.field-0.0 c.loop-place.read.items c.args.count c.loop-place._place (λ place. entry) _ _ c.loop-place-test.true c.in_err-one.ensures.answers c.loop-place.invariant.reads)

pub loop-place-preserved : goal.loop-place-preserved
loop-place-preserved g c =
    record { reads = rw c.in_ok-push.ensures.items (series_goes_on c.loop-place.read.items c.args.count c.loop-place._place (λ place. entry) _ _ c.in_ok-one.one _ c.loop-place-test.true c.in_ok-one.ensures.answers c.loop-place.invariant.reads); kept = c.in_ok-one.ensures.kept ∙ c.loop-place.invariant.kept }

pub returns-clause-answers : goal.returns-clause-answers
returns-clause-answers g c = rw c.new.ensures (series_ends c.loop-place.read.items c.args.count c.loop-place._place (λ place. entry) _ _ c.loop-place-test.false c.loop-place.invariant.reads)
