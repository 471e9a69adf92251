use Rattle.std.proofs.Common.{◌≤◌, ◌-◌}
use Rattle.stream_recoder.specs.Recoder.{options_of}
use Rattle.recode_run.proofs.Reading.{Reads}
use Rattle.recode_run.proofs.run.recode_all.Given as goal

-- the bytes read so far were fed, have no verdict, and what is written for their units was put
abbrev pub invariant-reading : goal.invariant-reading
invariant-reading g l = record {
  reads : Reads g.P.InitPick.tried g.P.InitPick.step (options_of g.P.InitPick.tried l.fn.recoder) (g.S.Source.left l.fn.src) (g.S.Source.left l.src) (g.K.Sink.held l.fn.out) (g.K.Sink.held l.out) l.recoder l.account l.taken;
  within : l.taken ≤ l.bound;
  read : g.S.Source.faults l.fn.src ≤ g.S.Source.faults l.src;
  write : g.K.Sink.faults l.fn.out ≤ g.K.Sink.faults l.out;
}

abbrev pub decreases-reading : goal.decreases-reading
decreases-reading g l = l.bound - l.taken
