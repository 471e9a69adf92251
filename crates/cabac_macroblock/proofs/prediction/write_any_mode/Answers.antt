use Rattle.binarisation.proofs.Strings.{on_ok}
use Rattle.cabac_macroblock.proofs.PredictionSteps.{writes_same, writes_other}
use Rattle.cabac_macroblock.proofs.prediction.write_any_mode.Goals as goal

pub returns-then-mode-eq-PREDICTED-clause-writes : goal.returns-then-mode-eq-PREDICTED-clause-writes
returns-then-mode-eq-PREDICTED-clause-writes g c = on_ok c.write_mode_flag.result (λ written. writes_same g.S.BinSink.step c.args.mode _ _ c.if-mode-eq-PREDICTED.true written) c.write_mode_flag.ensures.writes

pub returns-clause-writes : goal.returns-clause-writes
returns-clause-writes g c = on_ok c.write_mode.result (λ written. writes_other g.S.BinSink.step c.args.mode _ _ _ c.in_ok-write_mode_flag.ensures.writes written) c.write_mode.ensures.writes
