use Rattle.std.proofs.Common.{ap}
use Rattle.std.specs.Option.{option_map}
use Rattle.binarisation.specs.BinString.{◌>>=◌}
use Rattle.binarisation.proofs.Strings.{reads_then, reads_none}
use Rattle.cabac_inter.specs.InterPrediction.{inter_prediction}
use Rattle.cabac_macroblock.specs.CodedBlockPattern.{pattern}
use Rattle.cabac_macroblock.specs.MacroblockLayer.{last_transform_size, coding, inter_elements}
use Rattle.cabac_macroblock.proofs.Puts.{unread}
use Rattle.cabac_macroblock.proofs.macroblock.read_inter_elements.Goals as goal

pub returns-in_err-read_inter_prediction-clause-reads : goal.returns-in_err-read_inter_prediction-clause-reads
unfolding inter_elements
returns-in_err-read_inter_prediction-clause-reads g c mbs stands =
    let shape = c.args.shape.now in
    let step = g.S.BinSource.step in
    let first = inter_prediction shape mbs c.args.at c.args.mb.now in
    unread _ _ _ _ _ (ap (option_map _) c.from_residual.ensures)
    (reads_none step (first >>= pattern shape mbs c.args.at >>= last_transform_size shape mbs c.args.at) (coding shape mbs c.args.at) _ _
    (reads_none step (first >>= pattern shape mbs c.args.at) (last_transform_size shape mbs c.args.at) _ _
    (reads_none step first (pattern shape mbs c.args.at) _ _ (c.in_err-read_inter_prediction.ensures.reads mbs stands))))

pub returns-in_err-read_pattern-clause-reads : goal.returns-in_err-read_pattern-clause-reads
unfolding inter_elements
returns-in_err-read_pattern-clause-reads g c mbs stands =
    let shape = c.args.shape.now in
    let step = g.S.BinSource.step in
    let first = inter_prediction shape mbs c.args.at c.args.mb.now in
    unread _ _ _ _ _ (ap (option_map _) c.from_residual-in_err-read_pattern.ensures)
    (reads_none step (first >>= pattern shape mbs c.args.at >>= last_transform_size shape mbs c.args.at) (coding shape mbs c.args.at) _ _
    (reads_none step (first >>= pattern shape mbs c.args.at) (last_transform_size shape mbs c.args.at) _ _
    (reads_then step first (pattern shape mbs c.args.at) c.read_inter_prediction.new.mb _ _ _ _ (c.in_ok-read_inter_prediction.ensures.reads mbs stands) (c.in_err-read_pattern.ensures.reads mbs stands))))

pub returns-in_err-read_last_transform_size-clause-reads : goal.returns-in_err-read_last_transform_size-clause-reads
unfolding inter_elements
returns-in_err-read_last_transform_size-clause-reads g c mbs stands =
    let shape = c.args.shape.now in
    let step = g.S.BinSource.step in
    let first = inter_prediction shape mbs c.args.at c.args.mb.now in
    unread _ _ _ _ _ (ap (option_map _) c.from_residual-in_err-read_last_transform_size.ensures)
    (reads_none step (first >>= pattern shape mbs c.args.at >>= last_transform_size shape mbs c.args.at) (coding shape mbs c.args.at) _ _
    (reads_then step (first >>= pattern shape mbs c.args.at) (last_transform_size shape mbs c.args.at) c.read_pattern.new.mb _ _ _ _
    (reads_then step first (pattern shape mbs c.args.at) c.read_inter_prediction.new.mb _ _ _ _ (c.in_ok-read_inter_prediction.ensures.reads mbs stands) (c.in_ok-read_pattern.ensures.reads mbs stands))
    (c.in_err-read_last_transform_size.ensures.reads mbs stands)))

pub returns-clause-reads : goal.returns-clause-reads
unfolding inter_elements
returns-clause-reads g c mbs stands =
    let shape = c.args.shape.now in
    let step = g.S.BinSource.step in
    let first = inter_prediction shape mbs c.args.at c.args.mb.now in
    reads_then step (first >>= pattern shape mbs c.args.at >>= last_transform_size shape mbs c.args.at) (coding shape mbs c.args.at) c.read_last_transform_size.new.mb _ _ _ _
    (reads_then step (first >>= pattern shape mbs c.args.at) (last_transform_size shape mbs c.args.at) c.read_pattern.new.mb _ _ _ _
    (reads_then step first (pattern shape mbs c.args.at) c.read_inter_prediction.new.mb _ _ _ _ (c.in_ok-read_inter_prediction.ensures.reads mbs stands) (c.in_ok-read_pattern.ensures.reads mbs stands))
    (c.in_ok-read_last_transform_size.ensures.reads mbs stands)) (c.read_coding.ensures.reads mbs stands)
