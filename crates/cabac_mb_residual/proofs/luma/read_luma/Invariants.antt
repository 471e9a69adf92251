use Rattle.std.proofs.Common.{◌≡◌, ◌-◌, false, List}
use Rattle.cabac_contexts.specs.Terms.{IsReadAt}
use Rattle.h264_types.specs.declared.macroblock.Mb.{Mb}
use Rattle.binarisation.proofs.Strings.{Continues}
use Rattle.binarisation.specs.Each.{each}
use Rattle.cabac_mb_residual.specs.MacroblockResidual.{quarter}
use Rattle.cabac_mb_residual.proofs.luma.read_luma.Given as goal

abbrev pub invariant-loop-quarter : goal.invariant-loop-quarter
invariant-loop-quarter g l = record {
  going : g.S.BinSource.over l.s ≡ false;
  kind : l.mb.kind ≡ l.fn.mb.kind;
  reads : (mbs : List Mb) → IsReadAt l.shape l.done mbs l.at → Continues g.S.BinSource.step (each 4 (quarter l.shape mbs l.at) 0 l.fn.mb) l.fn.s (each (4 - l.quarter) (quarter l.shape mbs l.at) l.quarter l.mb) l.s;
}
