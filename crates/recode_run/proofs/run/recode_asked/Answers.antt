use Rattle.std.proofs.Common.{inr, subst, sym}
use Rattle.std.specs.Prelude.{Option}
use Rattle.recode_run.specs.Words.{Request}
use Rattle.recode_run.specs.Run.{Ran}
use Rattle.recode_run.proofs.run.recode_asked.Goals as goal

pub returns-in-Ok-of-clause-ran : goal.returns-in-Ok-of-clause-ran
returns-in-Ok-of-clause-ran g c =
    let left = g.S.Source.left in
    let held = g.K.Sink.held in
    let k = c.recode in
    let P : Option Request → Type 0 = λ asked. Ran asked c.args.bound (left c.args.src.now) (left k.new.src) (held c.args.out.now) (held k.new.out) k.new.account k.result in
    subst P (sym c.in-Ok.ensures.value) (inr (inr (c.in-Ok-of.init, c.in-Ok-of.ensures, k.ensures.ends)))
