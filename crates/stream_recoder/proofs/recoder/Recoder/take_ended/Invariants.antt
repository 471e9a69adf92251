use Rattle.std.proofs.Common.{◌≡◌, List, ◌++◌}
use Rattle.annexb_units.specs.Splitter.{waiting_count}
use Rattle.stream_recoder.specs.Written.{Written}
use Rattle.stream_recoder.specs.Recoder.{waiting, options_of}
use Rattle.stream_recoder.proofs.Units.{Took}
use Rattle.stream_recoder.proofs.recoder.Recoder.take_ended.Given as goal

-- some units were taken, and what is written for them waits
abbrev pub invariant-loop-unit : goal.invariant-loop-unit
invariant-loop-unit g l =
    let tried = g.P.InitPick.tried in
    record {
      holds : Took tried g.P.InitPick.step l.fn.self l.self;
      grows : (more : List Written) × (waiting l.self ≡ waiting l.fn.self ++ more);
      stopped : l.self.stopped ≡ l.fn.self.stopped;
      options : options_of tried l.self ≡ options_of tried l.fn.self;
    }

abbrev pub decreases-loop-unit : goal.decreases-loop-unit
decreases-loop-unit g l = waiting_count l.self.splitter
