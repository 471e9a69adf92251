use Rattle.std.proofs.Common.{ap, refl}
use Rattle.std.specs.Option.{option_map}
use Rattle.cabac_macroblock.proofs.Puts.{unread}
use Rattle.cabac_macroblock.proofs.PredictionSteps.{reads_chroma_mode, reads_no_chroma_mode}
use Rattle.cabac_macroblock.proofs.prediction.read_chroma.Goals as goal

pub returns-in_err-mb-clause-reads : goal.returns-in_err-mb-clause-reads
returns-in_err-mb-clause-reads g c mbs stands =
    unread _ _ _ _ _ (ap (option_map _) c.from_residual.ensures)
    (reads_no_chroma_mode g.S.BinSource.step c.args.shape.now mbs c.args.at c.args.mb.now _ _ _ (c.ctx_inc_chroma_mode.ensures.value mbs stands) c.in_err-mb.ensures.reads)

pub returns-clause-reads : goal.returns-clause-reads
returns-clause-reads g c mbs stands =
    reads_chroma_mode g.S.BinSource.step c.args.shape.now mbs c.args.at c.args.mb.now _ _ _ _ _ (c.ctx_inc_chroma_mode.ensures.value mbs stands) refl c.in_ok-mb.ensures.reads
