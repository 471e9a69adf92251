use Rattle.std.proofs.Common.{◌≡◌, ◌-◌, ◌<◌, ◌^◌, false, List}
use Rattle.cabac_contexts.specs.Terms.{IsReadAt}
use Rattle.h264_types.specs.declared.macroblock.Mb.{Mb}
use Rattle.binarisation.proofs.Strings.{Continues}
use Rattle.binarisation.specs.Each.{each}
use Rattle.cabac_macroblock.specs.CodedBlockPattern.{luma_bit, luma_bits}
use Rattle.cabac_macroblock.proofs.pattern.read_luma.Given as goal

abbrev pub invariant-loop-quarter : goal.invariant-loop-quarter
invariant-loop-quarter g l = record {
  going : g.S.BinSource.over l.s ≡ false;
  bits : l.mb.pattern.luma < 2 ^ l.quarter;
  others : l.mb ≡ record l.fn.mb { pattern = record l.fn.mb.pattern { luma = l.mb.pattern.luma } };
  reads : (mbs : List Mb) → IsReadAt l.shape l.done mbs l.at → Continues g.S.BinSource.step (luma_bits l.shape mbs l.at l.fn.mb) l.fn.s (each (4 - l.quarter) (luma_bit l.shape mbs l.at) l.quarter l.mb) l.s;
}
