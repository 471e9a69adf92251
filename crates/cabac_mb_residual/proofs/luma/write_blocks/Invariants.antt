use Rattle.std.proofs.Common.{◌≡◌, ◌+◌, ◌-◌, ◌*◌, false, List}
use Rattle.cabac_contexts.specs.Terms.{IsReadAt}
use Rattle.h264_types.specs.declared.macroblock.Mb.{Mb}
use Rattle.binarisation.proofs.Strings.{Completes}
use Rattle.binarisation.specs.Each.{each}
use Rattle.cabac_mb_residual.specs.MacroblockResidual.{luma4}
use Rattle.cabac_mb_residual.specs.Levels.{so_far}
use Rattle.cabac_mb_residual.proofs.luma.write_blocks.Given as goal

abbrev pub invariant-loop-k : goal.invariant-loop-k
invariant-loop-k g l = record {
  going : g.S.BinSink.over l.s ≡ false;
  writes : (mbs : List Mb) → IsReadAt l.shape l.done mbs l.at → Completes g.S.BinSink.step (each 4 (luma4 l.shape mbs l.at) (4 * l.quarter) (so_far 16 (64 * l.quarter) 0 0 l.mb)) l.fn.s (each (4 - l.k) (luma4 l.shape mbs l.at) (4 * l.quarter + l.k) (so_far 16 (16 * (4 * l.quarter + l.k)) 0 0 l.mb)) l.s;
}
