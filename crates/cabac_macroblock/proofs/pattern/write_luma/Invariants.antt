use Rattle.std.proofs.Common.{◌≡◌, ◌-◌, Bool, false, List}
use Rattle.cabac_contexts.specs.Terms.{IsReadAt}
use Rattle.h264_types.specs.declared.macroblock.Mb.{Mb}
use Rattle.binarisation.proofs.Strings.{Completes}
use Rattle.binarisation.specs.Each.{each}
use Rattle.cabac_macroblock.specs.CodedBlockPattern.{luma_bit, luma_bits}
use Rattle.cabac_macroblock.specs.Stages.{before_pattern}
use Rattle.cabac_macroblock.proofs.PatternSteps.{with_quarters}
use Rattle.cabac_macroblock.proofs.pattern.write_luma.Given as goal

abbrev pub invariant-loop-quarter : goal.invariant-loop-quarter
invariant-loop-quarter g l = record {
  going : g.S.BinSink.over l.s ≡ false;
  writes : (mbs : List Mb) (t8 : Bool) → IsReadAt l.shape l.done mbs l.at → Completes g.S.BinSink.step (luma_bits l.shape mbs l.at (before_pattern (record l.mb { t8 = t8 }))) l.fn.s (each (4 - l.quarter) (luma_bit l.shape mbs l.at) l.quarter (with_quarters l.quarter (record l.mb { t8 = t8 }))) l.s;
}
