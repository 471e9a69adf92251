-- A pick of one number isn't asked, and one of all about a slice alone in which the number stands.
use Rattle.std.proofs.Common.{◌∙◌, refl, sym, true, false}
use Rattle.std.proofs.lemmas.Result.{IfOk-weaker}
use Rattle.slice_rewrite.specs.Options.{whole_run}
use Rattle.slice_rewrite.specs.Picks.{IsChosen, IsPickedForm}
use Rattle.slice_rewrite.specs.SliceForms.{IsSliceForm}
use Rattle.slice_rewrite.specs.declared.pick.Tries.TheVariants.{One}
use Rattle.slice_rewrite.proofs.Picked.{picked_all, picked_none, stands_opened}
use Rattle.slice_rewrite.proofs.opening.OpenSlice.recode.Goals as goal

pub returns-in-All-clause-ok : goal.returns-in-All-clause-ok
returns-in-All-clause-ok g c sets header bits r =
    let P = g.P.InitPick in
    let to = c.args.to in
    let init = c.args.init.now in
    let old = c.args.pick.now in
    let new = c.recode_by.new.pick in
    IfOk-weaker c.recode_by.result (λ form. IsChosen P.tried P.step to init c.args.number sets header bits old form.payload.items form.macroblocks new)
    (λ form. IsPickedForm P.tried P.step to init c.args.number sets header bits old form.payload.items form.macroblocks new)
    (λ form chosen. picked_all P.tried P.step to init c.args.number sets header bits old new form.payload.items form.macroblocks (sym c.in-All.ensures.value) chosen
    (stands_opened to init sets header bits c.args.self.now true chosen.form.slice r (λ mbs. sym c.if-sends_idc.true ∙ c.sends_idc.ensures sets header bits r mbs) chosen.form.read))
    (c.recode_by.ensures.ok sets header bits r)

pub returns-in-All-2-clause-ok : goal.returns-in-All-2-clause-ok
returns-in-All-2-clause-ok g c sets header bits r =
    let P = g.P.InitPick in
    let to = c.args.to in
    let init = c.args.init.now in
    let pick = c.args.pick.now in
    IfOk-weaker c.recode_with-in-All-2.result (λ form. IsSliceForm (whole_run to init (One 0)) c.args.number sets header bits form.payload.items form.macroblocks)
    (λ form. IsPickedForm P.tried P.step to init c.args.number sets header bits pick form.payload.items form.macroblocks pick)
    (λ form f. picked_none P.tried P.step to init c.args.number sets header bits pick pick 0 form.payload.items form.macroblocks (sym c.in-All-2.ensures.value) refl f
    (stands_opened to init sets header bits c.args.self.now false f.slice r (λ mbs. sym c.if-sends_idc.false ∙ c.sends_idc.ensures sets header bits r mbs) f.read))
    (c.recode_with-in-All-2.ensures.ok sets header bits r)
