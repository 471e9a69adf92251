use Rattle.std.proofs.Common.{◌≡◌, ◌≤◌, ◌++◌, ◌-◌, ℕ, length, take, drop, replicate}
use Rattle.bit_texts.specs.Texts.{Completes}
use Rattle.h264_types.specs.Sent.{mode_count}
use Rattle.cavlc_macroblock.specs.MacroblockLayer.{mode_text}
use Rattle.cavlc_macroblock.proofs.prediction.read_modes.Given as goal

abbrev pub invariant-loop-n : goal.invariant-loop-n
invariant-loop-n g l = record {
  size : length l.modes ≡ 16;
  most : l.n ≤ mode_count l.t8;
  others : drop (mode_count l.t8) l.modes ≡ replicate (16 - mode_count l.t8) 0;
  completes : Completes (λ (s : ℕ) mode. mode ≤ 8) (λ (s : ℕ) mode. mode_text mode) (λ (s mode : ℕ). s) (mode_count l.t8) 0 (g.B.BitSource.left l.fn.bits) (mode_count l.t8 - l.n) 0 (g.B.BitSource.left l.bits) (take l.n l.modes);
  kept : g.B.BitSource.taken l.bits ++ g.B.BitSource.left l.bits ≡ g.B.BitSource.taken l.fn.bits ++ g.B.BitSource.left l.fn.bits;
}
