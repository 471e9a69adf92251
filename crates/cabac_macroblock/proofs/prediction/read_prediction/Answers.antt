use Rattle.std.proofs.Common.{ap}
use Rattle.std.specs.Option.{option_map}
use Rattle.binarisation.specs.BinString.{◌>>=◌}
use Rattle.binarisation.proofs.Strings.{reads_then, reads_none}
use Rattle.cabac_macroblock.specs.IntraPrediction.{transform_size, modes, chroma_mode, intra_prediction}
use Rattle.cabac_macroblock.proofs.Puts.{unread}
use Rattle.cabac_macroblock.proofs.prediction.read_prediction.Goals as goal

pub returns-in_err-read_transform_size-clause-reads : goal.returns-in_err-read_transform_size-clause-reads
unfolding intra_prediction
returns-in_err-read_transform_size-clause-reads g c mbs stands =
    let shape = c.args.shape.now in
    let step = g.S.BinSource.step in
    unread _ _ _ _ _ (ap (option_map _) c.from_residual.ensures)
    (reads_none step (transform_size shape mbs c.args.at c.args.mb.now >>= modes) (chroma_mode shape mbs c.args.at) _ _
    (reads_none step (transform_size shape mbs c.args.at c.args.mb.now) modes _ _ (c.in_err-read_transform_size.ensures.reads mbs stands)))

pub returns-in_err-read_modes-clause-reads : goal.returns-in_err-read_modes-clause-reads
unfolding intra_prediction
returns-in_err-read_modes-clause-reads g c mbs stands =
    let shape = c.args.shape.now in
    let step = g.S.BinSource.step in
    unread _ _ _ _ _ (ap (option_map _) c.from_residual-in_err-read_modes.ensures)
    (reads_none step (transform_size shape mbs c.args.at c.args.mb.now >>= modes) (chroma_mode shape mbs c.args.at) _ _
    (reads_then step (transform_size shape mbs c.args.at c.args.mb.now) modes c.read_transform_size.new.mb _ _ _ _ (c.in_ok-read_transform_size.ensures.reads mbs stands) c.in_err-read_modes.ensures.reads))

pub returns-clause-reads : goal.returns-clause-reads
unfolding intra_prediction
returns-clause-reads g c mbs stands =
    let shape = c.args.shape.now in
    let step = g.S.BinSource.step in
    reads_then step (transform_size shape mbs c.args.at c.args.mb.now >>= modes) (chroma_mode shape mbs c.args.at) c.read_modes.new.mb _ _ _ _
    (reads_then step (transform_size shape mbs c.args.at c.args.mb.now) modes c.read_transform_size.new.mb _ _ _ _ (c.in_ok-read_transform_size.ensures.reads mbs stands) c.in_ok-read_modes.ensures.reads)
    (c.read_chroma.ensures.reads mbs stands)
