use Rattle.std.proofs.Common.{◌≡◌, ◌+◌, ◌-◌, ◌*◌, false, List}
use Rattle.cabac_contexts.specs.Terms.{IsReadAt}
use Rattle.h264_types.specs.declared.macroblock.Mb.{Mb}
use Rattle.binarisation.proofs.Strings.{Completes}
use Rattle.binarisation.specs.Each.{each}
use Rattle.cabac_mb_residual.specs.MacroblockResidual.{chroma_block}
use Rattle.cabac_mb_residual.specs.Levels.{so_far}
use Rattle.cabac_mb_residual.proofs.chroma.write_ac_of.Given as goal

abbrev pub invariant-loop-n : goal.invariant-loop-n
invariant-loop-n g l = record {
  going : g.S.BinSink.over l.s ≡ false;
  writes : (mbs : List Mb) → IsReadAt l.shape l.done mbs l.at → Completes g.S.BinSink.step (each 4 (chroma_block l.shape mbs l.at l.comp) 0 (so_far 16 256 8 (60 * l.comp) l.mb)) l.fn.s (each (4 - l.n) (chroma_block l.shape mbs l.at l.comp) l.n (so_far 16 256 8 (60 * l.comp + 15 * l.n) l.mb)) l.s;
}
