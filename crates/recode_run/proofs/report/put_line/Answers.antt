use Rattle.recode_run.proofs.WholeLine.{on_err, takes_whole}
use Rattle.recode_run.proofs.report.put_line.Goals as goal

pub returns-clause-err : goal.returns-clause-err
returns-clause-err g c =
    on_err c.flush.result _
    (takes_whole (g.E.Sink.held c.args.report.now) (g.E.Sink.held c.put_all.new.sink) (g.E.Sink.held c.flush.new.self) c.args.line.now c.in_ok-put_all.ensures.ok c.flush.ensures.bytes)
