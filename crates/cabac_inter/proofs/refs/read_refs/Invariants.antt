use Rattle.std.proofs.Common.{◌≡◌, ◌-◌, false, List}
use Rattle.binarisation.proofs.Strings.{Continues}
use Rattle.binarisation.specs.Each.{each}
use Rattle.h264_types.specs.declared.macroblock.Mb.{Mb}
use Rattle.cabac_contexts.specs.Terms.{IsReadAt}
use Rattle.cabac_inter.specs.InterPrediction.{ref_at, refs}
use Rattle.cabac_inter.proofs.refs.read_refs.Given as goal

abbrev pub invariant-loop-q : goal.invariant-loop-q
invariant-loop-q g l = record {
  going : g.S.BinSource.over l.s ≡ false;
  others : l.mb ≡ record l.fn.mb { refs = l.mb.refs };
  reads : (mbs : List Mb) → IsReadAt l.shape l.done mbs l.at → Continues g.S.BinSource.step (refs l.shape mbs l.at l.list l.fn.mb) l.fn.s (each (4 - l.q) (ref_at l.shape mbs l.at l.list) l.q l.mb) l.s;
}
