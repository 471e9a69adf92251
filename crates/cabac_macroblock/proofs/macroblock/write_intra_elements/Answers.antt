use Rattle.std.proofs.Common.{refl, sym, ap, ◌∙◌}
use Rattle.binarisation.specs.BinString.{◌>>=◌}
use Rattle.binarisation.proofs.Strings.{writes_then, on_ok}
use Rattle.cabac_macroblock.specs.IntraPrediction.{intra_prediction}
use Rattle.cabac_macroblock.specs.CodedBlockPattern.{pattern}
use Rattle.cabac_macroblock.specs.MacroblockLayer.{coding, intra_elements}
use Rattle.cabac_macroblock.specs.MbType.{of_kind}
use Rattle.cabac_macroblock.specs.Stages.{before_t8, before_pattern, before_qp_delta}
use Rattle.cabac_macroblock.proofs.Absent.{t8_first, intra_alone, no_samples}
use Rattle.cabac_macroblock.proofs.TypeSteps.{writes_same}
use Rattle.cabac_macroblock.proofs.macroblock.write_intra_elements.Goals as goal

pub write_prediction-requires-clause-t8 : goal.write_prediction-requires-clause-t8
write_prediction-requires-clause-t8 g c = t8_first c.args.shape.now c.args.mb.now c.requires.intra c.requires.valid.typed

pub returns-clause-writes : goal.returns-clause-writes
unfolding intra_elements
returns-clause-writes g c mbs stands =
    let shape = c.args.shape.now in
    let mb = c.args.mb.now in
    let step = g.S.BinSink.step in
    let start = ap before_t8 (no_samples shape mb c.requires.other c.requires.valid) ∙ sym (intra_alone shape mb c.requires.intra c.requires.ref0 c.requires.valid) in
    on_ok c.write_coding.result
    (λ written. writes_same step (intra_elements shape mbs c.args.at) (before_t8 mb) (of_kind mb.field mb.kind) mb mb _ _ start refl
    (writes_then step (intra_prediction shape mbs c.args.at (before_t8 mb) >>= pattern shape mbs c.args.at) (coding shape mbs c.args.at) (before_qp_delta mb) mb _ _ _
    (writes_then step (intra_prediction shape mbs c.args.at (before_t8 mb)) (pattern shape mbs c.args.at) (before_pattern mb) (before_qp_delta mb) _ _ _ (c.in_ok-write_prediction.ensures.writes mbs stands) (c.in_ok-write_pattern.ensures.writes mbs mb.t8 stands))
    written)) (c.write_coding.ensures.writes mbs stands)
