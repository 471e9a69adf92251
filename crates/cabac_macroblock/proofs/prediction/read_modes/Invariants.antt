use Rattle.std.proofs.Common.{◌≡◌, ◌-◌, ◌≤◌, false}
use Rattle.binarisation.proofs.Strings.{Continues}
use Rattle.binarisation.specs.Each.{each}
use Rattle.cabac_macroblock.specs.IntraPrediction.{mode_at, modes}
use Rattle.h264_types.specs.Sent.{mode_count}
use Rattle.cabac_macroblock.proofs.prediction.read_modes.Given as goal

abbrev pub invariant-loop-k : goal.invariant-loop-k
invariant-loop-k g l = record {
  going : g.S.BinSource.over l.s ≡ false;
  most : l.k ≤ mode_count l.fn.mb.t8;
  others : l.mb ≡ record l.fn.mb { modes = l.mb.modes };
  reads : Continues g.S.BinSource.step (modes l.fn.mb) l.fn.s (each (mode_count l.fn.mb.t8 - l.k) mode_at l.k l.mb) l.s;
}
