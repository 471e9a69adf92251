use Rattle.std.proofs.Common.{◌∙◌, arith, refl}
use Rattle.std.proofs.lemmas.Result.{err_from_is_err_and}
use Rattle.stream_recoder.specs.Written.{Written}
use Rattle.recode_run.proofs.Puts.{puts-none, puts-one, puts-part}
use Rattle.recode_run.proofs.run.put_waiting.Goals as goal

pub loop-form-init : goal.loop-form-init
loop-form-init g c = record { puts = puts-none g.P.InitPick.tried g.P.InitPick.step (g.K.Sink.held c.args.out.now) c.args.recoder.now c.args.account.now; later = omega arith; options = refl }

pub loop-form-preserved : goal.loop-form-preserved
loop-form-preserved g c =
    let held = g.K.Sink.held in
    let i = c.loop-form.invariant in
    let w : Written = record { form = c.in-Some.form.items; event = c.in-Some.event } in
    record {
      puts = puts-one g.P.InitPick.tried g.P.InitPick.step (held c.args.out.now) (held c.loop-form.out) (held c.put_all.new.sink) c.args.recoder.now c.loop-form.recoder c.drain.new.self c.args.account.now c.loop-form.account c.note.new.self w c.deref.result.now
          c.deref.ensures.value i.puts c.in-Some.ensures.some c.in_ok-put_all.ensures.ok c.note.ensures;
      later = omega (arith, c.in_ok-put_all.ensures.cause.later, i.later);
      options = c.drain.ensures.options ∙ i.options;
    }

pub returns-in_err-put_all-clause-err : goal.returns-in_err-put_all-clause-err
returns-in_err-put_all-clause-err g c =
    let held = g.K.Sink.held in
    let i = c.loop-form.invariant in
    let w : Written = record { form = c.in-Some.form.items; event = c.in-Some.event } in
    let p = err_from_is_err_and c.from_residual.result c.from_residual.ensures.1 in
    rw p.1 (puts-part g.P.InitPick.tried g.P.InitPick.step (held c.args.out.now) (held c.loop-form.out) (held c.put_all.new.sink) c.args.recoder.now c.loop-form.recoder c.drain.new.self c.args.account.now c.loop-form.account w c.deref.result.now
    c.deref.ensures.value i.puts c.in-Some.ensures.some c.in_err-put_all.ensures.err)
