use Rattle.std.proofs.Common.{◌≡◌, ◌-◌, false, List}
use Rattle.binarisation.proofs.Strings.{Completes}
use Rattle.binarisation.specs.Each.{each}
use Rattle.h264_types.specs.declared.macroblock.Mb.{Mb}
use Rattle.cabac_contexts.specs.Terms.{IsReadAt}
use Rattle.cabac_inter.specs.InterPrediction.{ref_at, refs}
use Rattle.cabac_inter.specs.Stages.{IsBegun}
use Rattle.cabac_inter.proofs.RefSteps.{first_refs}
use Rattle.cabac_inter.proofs.refs.write_refs.Given as goal

abbrev pub invariant-loop-q : goal.invariant-loop-q
invariant-loop-q g l = record {
  going : g.S.BinSink.over l.s ≡ false;
  writes : (mbs : List Mb) (base : Mb) → IsReadAt l.shape l.done mbs l.at → IsBegun l.mb base
      → Completes g.S.BinSink.step (refs l.shape mbs l.at l.list base) l.fn.s (each (4 - l.q) (ref_at l.shape mbs l.at l.list) l.q (first_refs l.list l.q l.mb base)) l.s;
}
