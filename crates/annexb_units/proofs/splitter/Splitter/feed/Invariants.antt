use Rattle.std.proofs.Common.{◌≤◌, ◌-◌, length, take}
use Rattle.annexb_units.specs.Splitter.{Feeds, ShowsNone}
use Rattle.annexb_units.proofs.splitter.Splitter.feed.Given as goal

-- the bytes so far were fed, and show no fault
abbrev pub invariant-loop-at : goal.invariant-loop-at
invariant-loop-at l = record {
  within : l.at ≤ length l.piece;
  fed : Feeds l.fn.self l.self (take l.at l.piece) × ShowsNone l.fn.self (take l.at l.piece);
}

abbrev pub decreases-loop-at : goal.decreases-loop-at
decreases-loop-at l = length l.piece - l.at
