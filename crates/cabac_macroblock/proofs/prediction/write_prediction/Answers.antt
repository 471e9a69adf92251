use Rattle.binarisation.specs.BinString.{◌>>=◌}
use Rattle.binarisation.proofs.Strings.{writes_then, on_ok}
use Rattle.cabac_macroblock.specs.IntraPrediction.{transform_size, modes, chroma_mode, intra_prediction}
use Rattle.cabac_macroblock.specs.Stages.{before_t8, before_modes, before_chroma_mode, before_pattern}
use Rattle.cabac_macroblock.proofs.PredictionSteps.{chroma_mode_range}
use Rattle.cabac_macroblock.proofs.prediction.write_prediction.Goals as goal

pub write_chroma-requires-clause-mode : goal.write_chroma-requires-clause-mode
write_chroma-requires-clause-mode g c = chroma_mode_range c.args.mb.now c.requires.predicted

pub returns-clause-writes : goal.returns-clause-writes
unfolding intra_prediction
returns-clause-writes g c mbs stands =
    let shape = c.args.shape.now in
    let mb = c.args.mb.now in
    let step = g.S.BinSink.step in
    on_ok c.write_chroma.result
    (λ written. writes_then step (transform_size shape mbs c.args.at (before_t8 mb) >>= modes) (chroma_mode shape mbs c.args.at) (before_chroma_mode mb) (before_pattern mb) _ _ _
    (writes_then step (transform_size shape mbs c.args.at (before_t8 mb)) modes (before_modes mb) (before_chroma_mode mb) _ _ _ (c.in_ok-write_transform_size.ensures.writes mbs stands) c.in_ok-write_modes.ensures.writes)
    written) (c.write_chroma.ensures.writes mbs stands)
