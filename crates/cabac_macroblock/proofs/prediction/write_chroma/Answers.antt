use Rattle.binarisation.proofs.Strings.{on_ok}
use Rattle.cabac_macroblock.proofs.PredictionSteps.{writes_chroma_mode}
use Rattle.cabac_macroblock.proofs.prediction.write_chroma.Goals as goal

pub returns-clause-writes : goal.returns-clause-writes
returns-clause-writes g c mbs stands = on_ok c.write_chroma_mode.result
    (λ written. writes_chroma_mode g.S.BinSink.step c.args.shape.now mbs c.args.at c.args.mb.now _ _ _ c.requires.picture (c.ctx_inc_chroma_mode-inc.ensures.value mbs stands) written) c.write_chroma_mode.ensures.writes
