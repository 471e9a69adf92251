use Rattle.std.proofs.Common.{◌≡◌, ◌≤◌}
use Rattle.stream_recoder.specs.Recoder.{options_of, waiting_count}
use Rattle.recode_run.proofs.Puts.{Puts}
use Rattle.recode_run.proofs.run.put_waiting.Given as goal

-- some of what waited was written and counted
abbrev pub invariant-loop-form : goal.invariant-loop-form
invariant-loop-form g l = record {
  puts : Puts g.P.InitPick.tried g.P.InitPick.step (g.K.Sink.held l.fn.out) (g.K.Sink.held l.out) l.fn.recoder l.recoder l.fn.account l.account;
  later : g.K.Sink.faults l.fn.out ≤ g.K.Sink.faults l.out;
  options : options_of g.P.InitPick.tried l.recoder ≡ options_of g.P.InitPick.tried l.fn.recoder;
}

abbrev pub decreases-loop-form : goal.decreases-loop-form
decreases-loop-form g l = waiting_count l.recoder
