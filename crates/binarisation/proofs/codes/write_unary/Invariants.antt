use Rattle.std.proofs.Common.{◌≡◌, ◌-◌, false}
use Rattle.binarisation.specs.Codes.{unary, ones}
use Rattle.binarisation.proofs.Strings.{Completes}
use Rattle.binarisation.proofs.codes.write_unary.Given as goal

abbrev pub invariant-loop-place : goal.invariant-loop-place
invariant-loop-place g l = record {
  going : g.S.BinSink.over l.s ≡ false;
  writes : Completes g.S.BinSink.step (unary l.contexts l.most) l.fn.s (ones l.contexts l.place (l.most - l.place)) l.s;
}
