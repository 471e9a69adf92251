use Rattle.std.proofs.Common.{◌≤◌, ℕ, get_or, refl, arith}
use Rattle.bit_texts.proofs.Turns.{AreTurns-drop, Wrote-turn, Wrote-turn_stop, Wrote-turns_end}
use Rattle.bit_texts.proofs.Writing.{Appends-Err}
use Rattle.cavlc_macroblock.specs.MacroblockLayer.{mode_text}
use Rattle.cavlc_macroblock.proofs.prediction.write_each.Goals as goal

pub write_mode-requires : goal.write_mode-requires
write_mode-requires g c = (AreTurns-drop (λ (s : ℕ) mode. mode ≤ 8) (λ (s mode : ℕ). s) 0 c.args.modes.now c.loop-mode.mode-index 0 c.loop-mode-test.true c.loop-mode.invariant.modes).0

pub returns-in_err-write_mode : goal.returns-in_err-write_mode
returns-in_err-write_mode g c =
    Appends-Err _ _ _ _ _ c.from_residual.ensures.0
    (Wrote-turn_stop (λ (s : ℕ) mode. mode_text mode) (λ (s mode : ℕ). s) 0 c.args.modes.now c.loop-mode.mode-index 0 (get_or c.args.modes.now c.loop-mode.mode-index 0) _ _ _ _ _ c.loop-mode-test.true refl c.loop-mode.invariant.wrote c.in_err-write_mode.ensures.1)

pub loop-mode-preserved : goal.loop-mode-preserved
loop-mode-preserved g c = record {
  modes = (AreTurns-drop (λ (s : ℕ) mode. mode ≤ 8) (λ (s mode : ℕ). s) 0 c.args.modes.now c.loop-mode.mode-index 0 c.loop-mode-test.true c.loop-mode.invariant.modes).1;
  wrote = Wrote-turn (λ (s : ℕ) mode. mode_text mode) (λ (s mode : ℕ). s) 0 0 c.args.modes.now c.loop-mode.mode-index 0 (get_or c.args.modes.now c.loop-mode.mode-index 0) _ _ _ _ c.loop-mode-test.true refl refl c.loop-mode.invariant.wrote c.in_ok-write_mode.ensures;
}

pub returns : goal.returns
returns g c =
    Wrote-turns_end (λ (s : ℕ) mode. mode_text mode) (λ (s mode : ℕ). s) 0 c.args.modes.now c.loop-mode.mode-index _ _ _ (omega (arith, c.loop-mode-test.false)) c.loop-mode.invariant.wrote
