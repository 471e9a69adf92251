use Rattle.std.proofs.Common.{◌≡◌, ap, refl}
use Rattle.std.proofs.lemmas.Result.{IfErr-weaker, err_from_is_err_and}
use Rattle.stream_recoder.specs.declared.recoder.Recoder.{Recoder}
use Rattle.stream_recoder.specs.Recoder.{waiting, TakesAll, TakingStops, RecodesMore, RecodingStops}
use Rattle.stream_recoder.proofs.Pieces.{on_ok_two, fed_ok, fed_stops, fed_bad, fed_memory, stopped_before}
use Rattle.stream_recoder.proofs.recoder.Recoder.feed.Goals as goal

pub returns-in-Some-clause-err : goal.returns-in-Some-clause-err
returns-in-Some-clause-err g c = stopped_before g.P.InitPick.tried g.P.InitPick.step c.args.self.now c.args.piece.now c.in-Some.stopped c.in-Some.is

pub returns-in-Ok-clause-ok : goal.returns-in-Ok-clause-ok
returns-in-Ok-clause-ok g c =
    let r = c.args.self.now in
    let between : Recoder _ = record r { splitter = c.feed.new.self } in
    let k = c.in-Ok.ensures.ok in
    let t = c.take_ended.new.self in
    on_ok_two (TakesAll g.P.InitPick.tried g.P.InitPick.step between t) (t.stopped ≡ between.stopped) (RecodesMore g.P.InitPick.tried g.P.InitPick.step r t c.args.piece.now) c.take_ended.result
    (λ all on. fed_ok g.P.InitPick.tried g.P.InitPick.step r between t c.args.piece.now record { fed = k.0; waits = refl; units = refl; stands = λ before stands. record { sets_are = stands.sets_are; begun = stands.begun }; options = refl; pick = refl } k.1 all on) c.take_ended.ensures.ok c.take_ended.ensures.stopped

pub returns-in-Ok-clause-err : goal.returns-in-Ok-clause-err
returns-in-Ok-clause-err g c =
    let r = c.args.self.now in
    let between : Recoder _ = record r { splitter = c.feed.new.self } in
    IfErr-weaker c.take_ended.result (TakingStops g.P.InitPick.tried g.P.InitPick.step between c.take_ended.new.self) (RecodingStops g.P.InitPick.tried g.P.InitPick.step r c.take_ended.new.self c.args.piece.now)
    (λ e t. fed_stops g.P.InitPick.tried g.P.InitPick.step r between c.take_ended.new.self c.args.piece.now e record { fed = c.in-Ok.ensures.ok.0; waits = refl; units = refl; stands = λ before stands. record { sets_are = stands.sets_are; begun = stands.begun }; options = refl; pick = refl } t) c.take_ended.ensures.err

pub returns-in_err-take_ended-in-Err-Bad-clause-err : goal.returns-in_err-take_ended-in-Err-Bad-clause-err
returns-in_err-take_ended-in-Err-Bad-clause-err g c =
    let r = c.args.self.now in
    let between : Recoder _ = record r { splitter = c.feed.new.self } in
    let p = err_from_is_err_and c.from_residual.result c.from_residual.ensures.1 in
    let k = rw c.in-Err-Bad.field-0-is at c.in-Err-Bad.ensures.err in
    rw (p.1, p.2) (fed_stops g.P.InitPick.tried g.P.InitPick.step r between c.take_ended-in-Err-Bad.new.self c.args.piece.now c.in_err-take_ended-in-Err-Bad.field-0.0 record { fed = k.0; waits = refl; units = refl; stands = λ before stands. record { sets_are = stands.sets_are; begun = stands.begun }; options = refl; pick = refl } c.in_err-take_ended-in-Err-Bad.ensures.err)

pub returns-in_ok-take_ended-in-Err-Bad-clause-err : goal.returns-in_ok-take_ended-in-Err-Bad-clause-err
returns-in_ok-take_ended-in-Err-Bad-clause-err g c =
    let r = c.args.self.now in
    let between : Recoder _ = record r { splitter = c.feed.new.self } in
    let k = rw c.in-Err-Bad.field-0-is at c.in-Err-Bad.ensures.err in
    fed_bad g.P.InitPick.tried g.P.InitPick.step r between c.take_ended-in-Err-Bad.new.self c.stop.new.self c.args.piece.now c.in-Err-Bad.unit c.in-Err-Bad.why c.stop.result record { fed = k.0; waits = refl; units = refl; stands = λ before stands. record { sets_are = stands.sets_are; begun = stands.begun }; options = refl; pick = refl }
    k.1 c.in_ok-take_ended-in-Err-Bad.ensures.ok c.in_ok-take_ended-in-Err-Bad.ensures.options (ap waiting c.stop.ensures.after) (ap (λ (x : Recoder _). x.pick) c.stop.ensures.after) c.stop.ensures.value

pub returns-in-Err-Memory-clause-err : goal.returns-in-Err-Memory-clause-err
returns-in-Err-Memory-clause-err g c =
    fed_memory g.P.InitPick.tried g.P.InitPick.step c.args.self.now c.stop-in-Err-Memory.new.self c.args.piece.now c.stop-in-Err-Memory.result (ap waiting c.stop-in-Err-Memory.ensures.after) (ap (λ (x : Recoder _). x.pick) c.stop-in-Err-Memory.ensures.after) c.stop-in-Err-Memory.ensures.value
