use Rattle.std.proofs.Common.{◌≡◌, ◌-◌, false}
use Rattle.binarisation.proofs.Strings.{Continues}
use Rattle.binarisation.specs.Each.{each}
use Rattle.cabac_inter.specs.InterPrediction.{sub_at, subs}
use Rattle.cabac_inter.proofs.subs.read_subs.Given as goal

abbrev pub invariant-loop-q : goal.invariant-loop-q
invariant-loop-q g l = record {
  going : g.S.BinSource.over l.s ≡ false;
  others : l.mb ≡ record l.fn.mb { subs = l.mb.subs };
  reads : Continues g.S.BinSource.step (subs l.fn.mb) l.fn.s (each (4 - l.q) sub_at l.q l.mb) l.s;
}
