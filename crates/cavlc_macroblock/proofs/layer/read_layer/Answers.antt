use Rattle.std.proofs.Common.{ap}
use Rattle.std.specs.Option.{option_map}
use Rattle.bit_texts.proofs.Reading.{Reads-None}
use Rattle.cavlc_macroblock.proofs.LayerChain.{after_prediction, no_prediction}
use Rattle.cavlc_macroblock.proofs.layer.read_layer.Goals as goal

pub returns-in_err-read_prediction-clause-reads : goal.returns-in_err-read_prediction-clause-reads
returns-in_err-read_prediction-clause-reads g c =
    let left = g.B.BitSource.left in
    let mid = left c.read_prediction.new.bits in
    Reads-None _ _ _ _ _ (ap (option_map _) c.from_residual.ensures)
    (no_prediction c.args.shape.now c.args.around.now c.args.kind c.args.ref0 c.args.field c.args.bound (left c.args.bits.now) mid mid c.in_err-read_prediction.ensures.reads)

pub returns-clause-reads : goal.returns-clause-reads
returns-clause-reads g c =
    let left = g.B.BitSource.left in
    after_prediction c.args.shape.now c.args.around.now c.args.kind c.args.ref0 c.args.field c.args.bound c.requires.is_shape c.read_prediction.new.mb (left c.args.bits.now) (left c.read_prediction.new.bits) c.in_ok-read_prediction.ensures.reads
    (option_map (λ _. c.read_coding.new.mb) c.read_coding.result) (left c.read_coding.new.bits) c.read_coding.ensures.reads
