use Rattle.std.proofs.Common.{◌≤◌, ◌-◌, ℕ, drop, length}
use Rattle.bit_texts.specs.Texts.{Wrote, AreTurns, turns_text}
use Rattle.cavlc_macroblock.specs.MacroblockLayer.{mode_text}
use Rattle.cavlc_macroblock.proofs.prediction.write_each.Given as goal

abbrev pub invariant-loop-mode : goal.invariant-loop-mode
invariant-loop-mode g l = record {
  modes : AreTurns (λ (s : ℕ) mode. mode ≤ 8) (λ (s mode : ℕ). s) (length l.modes - l.mode-index) 0 (drop l.mode-index l.modes);
  wrote : Wrote (g.B.BitSink.bits l.fn.bits) (g.B.BitSink.bits l.bits) (turns_text (λ (s : ℕ) mode. mode_text mode) (λ (s mode : ℕ). s) 0 l.modes) (turns_text (λ (s : ℕ) mode. mode_text mode) (λ (s mode : ℕ). s) 0 (drop l.mode-index l.modes));
}
