use Rattle.std.proofs.Common.{◌≡◌, ◌-◌, false, List}
use Rattle.cabac_contexts.specs.Terms.{IsReadAt}
use Rattle.h264_types.specs.declared.macroblock.Mb.{Mb}
use Rattle.binarisation.proofs.Strings.{Continues}
use Rattle.binarisation.specs.Each.{each}
use Rattle.cabac_mb_residual.specs.MacroblockResidual.{chroma_block}
use Rattle.cabac_mb_residual.proofs.chroma.read_ac_of.Given as goal

abbrev pub invariant-loop-n : goal.invariant-loop-n
invariant-loop-n g l = record {
  going : g.S.BinSource.over l.s ≡ false;
  kind : l.mb.kind ≡ l.fn.mb.kind;
  reads : (mbs : List Mb) → IsReadAt l.shape l.done mbs l.at → Continues g.S.BinSource.step (each 4 (chroma_block l.shape mbs l.at l.comp) 0 l.fn.mb) l.fn.s (each (4 - l.n) (chroma_block l.shape mbs l.at l.comp) l.n l.mb) l.s;
}
