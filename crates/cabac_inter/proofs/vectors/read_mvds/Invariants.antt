use Rattle.std.proofs.Common.{◌≡◌, ◌-◌, false, List}
use Rattle.binarisation.proofs.Strings.{Continues}
use Rattle.binarisation.specs.Each.{each}
use Rattle.h264_types.specs.declared.macroblock.Mb.{Mb}
use Rattle.cabac_contexts.specs.Terms.{IsReadAt}
use Rattle.cabac_inter.specs.InterPrediction.{mvd_at, mvds}
use Rattle.cabac_inter.proofs.vectors.read_mvds.Given as goal

abbrev pub invariant-loop-n : goal.invariant-loop-n
invariant-loop-n g l = record {
  going : g.S.BinSource.over l.s ≡ false;
  others : l.mb ≡ record l.fn.mb { mvd = l.mb.mvd };
  reads : (mbs : List Mb) → IsReadAt l.shape l.done mbs l.at → Continues g.S.BinSource.step (mvds l.shape mbs l.at l.list l.fn.mb) l.fn.s (each (16 - l.n) (mvd_at l.shape mbs l.at l.list) l.n l.mb) l.s;
}
