use Rattle.std.proofs.Common.{◌≡◌, ◌-◌, ◌≤◌, false}
use Rattle.binarisation.proofs.Strings.{Completes}
use Rattle.binarisation.specs.Each.{each}
use Rattle.cabac_macroblock.specs.IntraPrediction.{mode_at, modes}
use Rattle.cabac_macroblock.specs.Stages.{before_modes}
use Rattle.cabac_macroblock.proofs.PredictionSteps.{with_first}
use Rattle.h264_types.specs.Sent.{mode_count}
use Rattle.cabac_macroblock.proofs.prediction.write_modes.Given as goal

abbrev pub invariant-loop-k : goal.invariant-loop-k
invariant-loop-k g l = record {
  going : g.S.BinSink.over l.s ≡ false;
  most : l.k ≤ mode_count l.mb.t8;
  writes : Completes g.S.BinSink.step (modes (before_modes l.mb)) l.fn.s (each (mode_count l.mb.t8 - l.k) mode_at l.k (with_first l.k l.mb)) l.s;
}
