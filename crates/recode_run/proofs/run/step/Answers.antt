use Rattle.recode_run.proofs.Feeding.{leaves, piece_done, piece_stops, piece_part, rose-fault, rose-stop}
use Rattle.recode_run.proofs.run.step.Goals as goal

pub returns-in-Err : goal.returns-in-Err
returns-in-Err g c =
    let held = g.K.Sink.held in
    let r = c.args.recoder.now in
    let r1 = c.feed-fed.new.self in
    let fed = c.feed-fed.ensures in
    record {
      ok = tt;
      err = piece_part g.P.InitPick.tried g.P.InitPick.step (held c.args.out.now) (held c.put_waiting.new.out) r r1 c.args.piece.now c.in-Err.fault c.status_of.result c.status_of.ensures
          (leaves g.P.InitPick.tried g.P.InitPick.step r r1 c.args.piece.now c.feed-fed.result fed.options fed.ok fed.err) c.in-Err.ensures.err;
      cause = rose-fault (g.K.Sink.faults c.args.out.now) (g.K.Sink.faults c.put_waiting.new.out) c.in-Err.fault c.status_of.result c.status_of.ensures c.in-Err.ensures.cause.failed;
      later = c.in-Err.ensures.cause.later;
    }

pub returns-in-Err-fed : goal.returns-in-Err-fed
returns-in-Err-fed g c =
    let held = g.K.Sink.held in
    record {
      ok = tt;
      err = piece_stops g.P.InitPick.tried g.P.InitPick.step (held c.args.out.now) (held c.put_waiting.new.out) c.args.recoder.now c.feed-fed.new.self c.args.piece.now c.in-Err-fed.stopped c.ended_by.result c.ended_by.ensures
          c.in-Err-fed.ensures.err c.in-Ok.ensures.ok.0;
      cause = rose-stop (g.K.Sink.faults c.args.out.now) (g.K.Sink.faults c.put_waiting.new.out) c.in-Err-fed.stopped c.ended_by.result c.ended_by.ensures;
      later = c.in-Ok.ensures.cause.later;
    }

pub returns-in-Ok-fed : goal.returns-in-Ok-fed
returns-in-Ok-fed g c =
    let held = g.K.Sink.held in
    record {
      ok = piece_done g.P.InitPick.tried g.P.InitPick.step (held c.args.out.now) (held c.put_waiting.new.out) c.args.recoder.now c.feed-fed.new.self c.put_waiting.new.recoder c.args.account.now c.put_waiting.new.account c.args.piece.now
          c.feed-fed.ensures.options c.put_waiting.ensures.options c.in-Ok-fed.ensures.ok c.in-Ok.ensures.ok c.in-Ok.ensures.recodes;
      err = tt;
      cause = tt;
      later = c.in-Ok.ensures.cause.later;
    }
