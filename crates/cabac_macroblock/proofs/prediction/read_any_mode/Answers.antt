use Rattle.cabac_macroblock.proofs.Puts.{unread}
use Rattle.cabac_macroblock.proofs.PredictionSteps.{reads_same, reads_other, reads_no_mode}
use Rattle.cabac_macroblock.proofs.prediction.read_any_mode.Goals as goal

pub returns-in_err-read_mode_flag-clause-reads : goal.returns-in_err-read_mode_flag-clause-reads
returns-in_err-read_mode_flag-clause-reads g c = unread _ _ _ _ _ c.from_residual.ensures (reads_no_mode g.S.BinSource.step _ _ c.in_err-read_mode_flag.ensures.reads)

pub returns-then-branch-clause-reads : goal.returns-then-branch-clause-reads
returns-then-branch-clause-reads g c = reads_same g.S.BinSource.step _ _ _ c.if-branch.true c.in_ok-read_mode_flag.ensures.reads

pub returns-clause-reads : goal.returns-clause-reads
returns-clause-reads g c = reads_other g.S.BinSource.step _ _ _ _ _ c.if-branch.false c.in_ok-read_mode_flag.ensures.reads c.read_mode.ensures.reads
