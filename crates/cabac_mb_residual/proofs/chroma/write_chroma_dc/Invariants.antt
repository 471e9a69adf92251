use Rattle.std.proofs.Common.{◌≡◌, ◌-◌, ◌*◌, false, List}
use Rattle.cabac_contexts.specs.Terms.{IsReadAt}
use Rattle.h264_types.specs.declared.macroblock.Mb.{Mb}
use Rattle.binarisation.proofs.Strings.{Completes}
use Rattle.binarisation.specs.Each.{each}
use Rattle.cabac_mb_residual.specs.MacroblockResidual.{chroma_dc}
use Rattle.cabac_mb_residual.specs.Levels.{so_far}
use Rattle.cabac_mb_residual.proofs.chroma.write_chroma_dc.Given as goal

abbrev pub invariant-loop-comp : goal.invariant-loop-comp
invariant-loop-comp g l = record {
  going : g.S.BinSink.over l.s ≡ false;
  writes : (mbs : List Mb) → IsReadAt l.shape l.done mbs l.at → Completes g.S.BinSink.step (each 2 (chroma_dc l.shape mbs l.at) 0 (so_far 16 256 0 0 l.mb)) l.fn.s (each (2 - l.comp) (chroma_dc l.shape mbs l.at) l.comp (so_far 16 256 (4 * l.comp) 0 l.mb)) l.s;
}
