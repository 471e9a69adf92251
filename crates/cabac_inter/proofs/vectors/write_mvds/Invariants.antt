use Rattle.std.proofs.Common.{◌≡◌, ◌-◌, false, List}
use Rattle.binarisation.proofs.Strings.{Completes}
use Rattle.binarisation.specs.Each.{each}
use Rattle.h264_types.specs.declared.macroblock.Mb.{Mb}
use Rattle.cabac_contexts.specs.Terms.{IsReadAt}
use Rattle.cabac_inter.specs.InterPrediction.{mvd_at, mvds}
use Rattle.cabac_inter.specs.Stages.{IsBegun}
use Rattle.cabac_inter.proofs.VectorSteps.{first_mvds}
use Rattle.cabac_inter.proofs.vectors.write_mvds.Given as goal

abbrev pub invariant-loop-n : goal.invariant-loop-n
invariant-loop-n g l = record {
  going : g.S.BinSink.over l.s ≡ false;
  writes : (mbs : List Mb) (base : Mb) → IsReadAt l.shape l.done mbs l.at → IsBegun l.mb base
      → Completes g.S.BinSink.step (mvds l.shape mbs l.at l.list base) l.fn.s (each (16 - l.n) (mvd_at l.shape mbs l.at l.list) l.n (first_mvds l.list l.n l.mb base)) l.s;
}
