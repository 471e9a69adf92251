use Rattle.std.proofs.Common.{◌≡◌, ◌-◌, false}
use Rattle.binarisation.proofs.Strings.{Completes}
use Rattle.binarisation.specs.Each.{each}
use Rattle.cabac_inter.specs.InterPrediction.{sub_at, subs}
use Rattle.cabac_inter.specs.Stages.{typed}
use Rattle.cabac_inter.proofs.SubSteps.{first_subs}
use Rattle.cabac_inter.proofs.subs.write_subs.Given as goal

abbrev pub invariant-loop-q : goal.invariant-loop-q
invariant-loop-q g l = record {
  going : g.S.BinSink.over l.s ≡ false;
  writes : Completes g.S.BinSink.step (subs (typed l.mb)) l.fn.s (each (4 - l.q) sub_at l.q (first_subs l.q l.mb)) l.s;
}
