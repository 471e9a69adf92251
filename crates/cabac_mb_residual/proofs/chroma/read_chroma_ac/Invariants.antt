use Rattle.std.proofs.Common.{◌≡◌, ◌-◌, false, List}
use Rattle.cabac_contexts.specs.Terms.{IsReadAt}
use Rattle.h264_types.specs.declared.macroblock.Mb.{Mb}
use Rattle.binarisation.proofs.Strings.{Continues}
use Rattle.binarisation.specs.Each.{each}
use Rattle.cabac_mb_residual.specs.MacroblockResidual.{chroma_ac}
use Rattle.cabac_mb_residual.proofs.chroma.read_chroma_ac.Given as goal

abbrev pub invariant-loop-comp : goal.invariant-loop-comp
invariant-loop-comp g l = record {
  going : g.S.BinSource.over l.s ≡ false;
  kind : l.mb.kind ≡ l.fn.mb.kind;
  reads : (mbs : List Mb) → IsReadAt l.shape l.done mbs l.at → Continues g.S.BinSource.step (each 2 (chroma_ac l.shape mbs l.at) 0 l.fn.mb) l.fn.s (each (2 - l.comp) (chroma_ac l.shape mbs l.at) l.comp l.mb) l.s;
}
