-- A unit of each kind.
use Rattle.std.proofs.Common.{sym, ◌∙◌}
use Rattle.std.proofs.lemmas.Result.{IfOk-weaker}
use Rattle.slice_rewrite.specs.Options.{options}
use Rattle.stream_recoder.specs.Forms.{IsForm, IsPickedForm, IsPickBehind}
use Rattle.stream_recoder.proofs.UnitForms.{err_all, others_stay, stays_behind}
use Rattle.stream_recoder.proofs.unit_form.unit_form.Goals as goal

pub returns-in-Carried-clause-ok : goal.returns-in-Carried-clause-ok
returns-in-Carried-clause-ok g c before stand =
    let P = g.P.InitPick in
    let o = options c.args.plan c.args.init.now (P.tried c.args.pick.now) in
    let after = c.args.sets.now in
    let periods = c.args.periods.now in
    let u = c.args.unit.now in
    IfOk-weaker c.carried_form.result (λ form. IsForm o before after periods u form.bytes.items form.macroblocks) (λ form. IsPickedForm P.tried P.step o before after periods u form.bytes.items form.macroblocks c.args.pick.now c.args.pick.now)
    (λ form f. others_stay P.tried P.step o before after periods u form.bytes.items form.macroblocks c.args.pick.now (λ e. let both = sym c.in-Carried.is ∙ c.unit_kind.ensures ∙ e in cc) f) (c.carried_form.ensures.ok c.args.init.now (P.tried c.args.pick.now) before periods stand)

pub returns-in-Carried-clause-err : goal.returns-in-Carried-clause-err
returns-in-Carried-clause-err g c before stand = c.carried_form.ensures.err c.args.init.now (g.P.InitPick.tried c.args.pick.now) before

pub returns-in-Carried-clause-pick : goal.returns-in-Carried-clause-pick
returns-in-Carried-clause-pick g c before stand =
    let P = g.P.InitPick in
    let o = options c.args.plan c.args.init.now (P.tried c.args.pick.now) in
    let u = c.args.unit.now in
    err_all c.carried_form.result (λ fault. IsPickBehind P.tried P.step o before u fault c.args.pick.now c.args.pick.now) (λ fault. stays_behind P.tried P.step o before u fault c.args.pick.now)

pub returns-in-Sps-clause-ok : goal.returns-in-Sps-clause-ok
returns-in-Sps-clause-ok g c before stand =
    let P = g.P.InitPick in
    let o = options c.args.plan c.args.init.now (P.tried c.args.pick.now) in
    let after = c.sps_form.new.sets in
    let periods = c.args.periods.now in
    let u = c.args.unit.now in
    IfOk-weaker c.sps_form.result (λ form. IsForm o before after periods u form.bytes.items form.macroblocks) (λ form. IsPickedForm P.tried P.step o before after periods u form.bytes.items form.macroblocks c.args.pick.now c.args.pick.now)
    (λ form f. others_stay P.tried P.step o before after periods u form.bytes.items form.macroblocks c.args.pick.now (λ e. let both = sym c.in-Sps.is ∙ c.unit_kind.ensures ∙ e in cc) f) (c.sps_form.ensures.ok c.args.init.now (P.tried c.args.pick.now) before periods stand)

pub returns-in-Sps-clause-err : goal.returns-in-Sps-clause-err
returns-in-Sps-clause-err g c before stand = c.sps_form.ensures.err c.args.init.now (g.P.InitPick.tried c.args.pick.now) before c.args.periods.now stand

pub returns-in-Sps-clause-pick : goal.returns-in-Sps-clause-pick
returns-in-Sps-clause-pick g c before stand =
    let P = g.P.InitPick in
    let o = options c.args.plan c.args.init.now (P.tried c.args.pick.now) in
    let u = c.args.unit.now in
    err_all c.sps_form.result (λ fault. IsPickBehind P.tried P.step o before u fault c.args.pick.now c.args.pick.now) (λ fault. stays_behind P.tried P.step o before u fault c.args.pick.now)

pub returns-in-Pps-clause-ok : goal.returns-in-Pps-clause-ok
returns-in-Pps-clause-ok g c before stand =
    let P = g.P.InitPick in
    let o = options c.args.plan c.args.init.now (P.tried c.args.pick.now) in
    let after = c.pps_form.new.sets in
    let periods = c.args.periods.now in
    let u = c.args.unit.now in
    IfOk-weaker c.pps_form.result (λ form. IsForm o before after periods u form.bytes.items form.macroblocks) (λ form. IsPickedForm P.tried P.step o before after periods u form.bytes.items form.macroblocks c.args.pick.now c.args.pick.now)
    (λ form f. others_stay P.tried P.step o before after periods u form.bytes.items form.macroblocks c.args.pick.now (λ e. let both = sym c.in-Pps.is ∙ c.unit_kind.ensures ∙ e in cc) f) (c.pps_form.ensures.ok c.args.init.now (P.tried c.args.pick.now) before periods stand)

pub returns-in-Pps-clause-err : goal.returns-in-Pps-clause-err
returns-in-Pps-clause-err g c before stand = c.pps_form.ensures.err c.args.init.now (g.P.InitPick.tried c.args.pick.now) before c.args.periods.now stand

pub returns-in-Pps-clause-pick : goal.returns-in-Pps-clause-pick
returns-in-Pps-clause-pick g c before stand =
    let P = g.P.InitPick in
    let o = options c.args.plan c.args.init.now (P.tried c.args.pick.now) in
    let u = c.args.unit.now in
    err_all c.pps_form.result (λ fault. IsPickBehind P.tried P.step o before u fault c.args.pick.now c.args.pick.now) (λ fault. stays_behind P.tried P.step o before u fault c.args.pick.now)
