use Rattle.std.proofs.Common.{◌≡◌, ◌-◌, ◌*◌, false, List}
use Rattle.cabac_contexts.specs.Terms.{IsReadAt}
use Rattle.h264_types.specs.declared.macroblock.Mb.{Mb}
use Rattle.binarisation.proofs.Strings.{Completes}
use Rattle.binarisation.specs.Each.{each}
use Rattle.cabac_mb_residual.specs.MacroblockResidual.{quarter}
use Rattle.cabac_mb_residual.specs.Levels.{so_far}
use Rattle.cabac_mb_residual.proofs.luma.write_luma.Given as goal

abbrev pub invariant-loop-quarter : goal.invariant-loop-quarter
invariant-loop-quarter g l = record {
  going : g.S.BinSink.over l.s ≡ false;
  writes : (mbs : List Mb) → IsReadAt l.shape l.done mbs l.at → Completes g.S.BinSink.step (each 4 (quarter l.shape mbs l.at) 0 (so_far 16 0 0 0 l.mb)) l.fn.s (each (4 - l.quarter) (quarter l.shape mbs l.at) l.quarter (so_far 16 (64 * l.quarter) 0 0 l.mb)) l.s;
}
