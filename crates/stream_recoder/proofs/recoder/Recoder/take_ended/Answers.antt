use Rattle.std.proofs.Common.{◌∙◌, ◌++◌, ◌∷◌, [], sym, ap, subst, refl, append_assoc}
use Rattle.std.proofs.lemmas.Result.{err_from_is_err_and}
use Rattle.annexb_units.specs.declared.splitter.Splitter.{Splitter}
use Rattle.annexb_units.specs.Splitter.{Takes}
use Rattle.stream_recoder.specs.Recoder.{waiting, options_of}
use Rattle.stream_recoder.proofs.Units.{adds-taken, refused-taken, stops-taken, took-more, none_more, all_more}
use Rattle.stream_recoder.proofs.recoder.Recoder.take_ended.Goals as goal

pub loop-unit-preserved : goal.loop-unit-preserved
loop-unit-preserved g c =
    let tried = g.P.InitPick.tried in
    let step = g.P.InitPick.step in
    let i = c.loop-unit.invariant in
    let r = c.loop-unit.self in
    let r' = c.recode.new.self in
    let u = c.in-Some.unit.items in
    let a = adds-taken tried step r c.take_unit.new.self r' u c.deref.result.now c.deref.ensures.value c.in_ok-recode.ensures.ok in
    let P : Splitter → Type 0 = λ s. Takes r.splitter s u in
    record {
      holds = took-more tried step c.args.self.now r r' u i.holds (subst P (sym c.recode.ensures.splitter) c.in-Some.ensures.some) a;
      grows = (i.grows.0 ++ a.written ∷ [], a.waits ∙ ap (λ w. w ++ a.written ∷ []) i.grows.1 ∙ append_assoc (waiting c.args.self.now) i.grows.0 (a.written ∷ []));
      stopped = a.stopped ∙ i.stopped;
      options = a.options ∙ i.options;
    }

pub returns-clause-ok : goal.returns-clause-ok
returns-clause-ok g c =
    all_more g.P.InitPick.tried g.P.InitPick.step c.args.self.now c.loop-unit.self _ c.loop-unit.invariant.holds refl refl (λ before stands. record { sets_are = stands.sets_are; begun = stands.begun }) refl refl c.in_default.ensures.none.0 c.in_default.ensures.none.1

pub returns-in_err-recode-clause-err : goal.returns-in_err-recode-clause-err
returns-in_err-recode-clause-err g c =
    let tried = g.P.InitPick.tried in
    let step = g.P.InitPick.step in
    let i = c.loop-unit.invariant in
    let r = c.loop-unit.self in
    let p = err_from_is_err_and c.from_residual.result c.from_residual.ensures.1 in
    let u = c.in-Some.unit.items in
    rw (p.1, p.2) (none_more tried step c.args.self.now r c.recode.new.self c.take_unit.new.self u c.in_err-recode.field-0.0 i.holds i.grows i.options c.in-Some.ensures.some c.in_err-recode.ensures.waits
    (λ before stands. stops-taken tried step (options_of tried r) before u c.deref.result.now c.in_err-recode.field-0.0 r.pick c.recode.new.self.pick c.deref.ensures.value (c.in_err-recode.ensures.pick before record { sets_are = stands.sets_are; begun = stands.begun }))
    (λ before stands. refused-taken tried step r c.take_unit.new.self before u c.deref.result.now c.in_err-recode.field-0.0 c.deref.ensures.value (c.in_err-recode.ensures.err before record { sets_are = stands.sets_are; begun = stands.begun })))
