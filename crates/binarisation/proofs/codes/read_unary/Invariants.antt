use Rattle.std.proofs.Common.{◌≡◌, ◌-◌, false}
use Rattle.binarisation.specs.Codes.{unary, ones}
use Rattle.binarisation.proofs.Strings.{Continues}
use Rattle.binarisation.proofs.codes.read_unary.Given as goal

abbrev pub invariant-loop-count : goal.invariant-loop-count
invariant-loop-count g l = record {
  going : g.S.BinSource.over l.s ≡ false;
  reads : Continues g.S.BinSource.step (unary l.contexts l.most) l.fn.s (ones l.contexts l.count (l.most - l.count)) l.s;
}
