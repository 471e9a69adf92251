use Rattle.std.proofs.Common.{subst}
use Rattle.h264_types.specs.Units.{seen}
use Rattle.slice_rewrite.specs.Options.{Options}
use Rattle.recode_run.specs.Words.{request_of}
use Rattle.recode_run.specs.Run.{run_for, RunEnds}
use Rattle.recode_run.proofs.Flush.{ends-kept, flush_ends, none_begun}
use Rattle.recode_run.proofs.run.recode.Goals as goal

pub returns-in_default-clause-ends : goal.returns-in_default-clause-ends
returns-in_default-clause-ends g c = none_begun (run_for (request_of c.args.asked) c.args.init) c.args.bound (g.S.Source.left c.args.src.now) (g.K.Sink.held c.args.out.now) c.args.account.now

pub recode_all-status-requires-clause-ready : goal.recode_all-status-requires-clause-ready
unfolding seen
recode_all-status-requires-clause-ready g c = ((_, c.in-Ok.ensures.0), c.in-Ok.ensures.0.holds.written)

pub returns-in-Ok-flush-clause-ends : goal.returns-in-Ok-flush-clause-ends
returns-in-Ok-flush-clause-ends g c =
    let left = g.S.Source.left in
    let held = g.K.Sink.held in
    let k = c.recode_all-status in
    let P : Options → Type 0 = λ o. RunEnds o c.args.bound (left c.args.src.now) (left k.new.src) (held c.args.out.now) (held c.flush.new.self) k.new.account k.result in
    subst P {y = run_for (request_of c.args.asked) c.args.init} c.in-Ok.ensures.1
    (ends-kept _ c.args.bound (left c.args.src.now) (left k.new.src) (held c.args.out.now) (held k.new.out) (held c.flush.new.self) k.new.account k.result k.ensures.ends c.flush.ensures.bytes)

pub returns-clause-ends : goal.returns-clause-ends
returns-clause-ends g c =
    let left = g.S.Source.left in
    let held = g.K.Sink.held in
    let k = c.recode_all-status in
    let P : Options → Type 0 = λ o. RunEnds o c.args.bound (left c.args.src.now) (left k.new.src) (held c.args.out.now) (held c.flush.new.self) k.new.account c.status_of.result in
    subst P {y = run_for (request_of c.args.asked) c.args.init} c.in-Ok.ensures.1
    (flush_ends _ c.args.bound (left c.args.src.now) (left k.new.src) (held c.args.out.now) (held k.new.out) (held c.flush.new.self) k.new.account k.result c.in-Err.fault c.status_of.result c.status_of.ensures k.ensures.ends c.flush.ensures.bytes)
