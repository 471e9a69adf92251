use Rattle.std.proofs.Common.{false, refl, sym, ap, ◌∙◌}
use Rattle.binarisation.specs.BinString.{◌>>=◌}
use Rattle.binarisation.proofs.Strings.{writes_then, on_ok}
use Rattle.h264_types.specs.declared.macroblock.Mb.{Mb}
use Rattle.cabac_inter.specs.InterPrediction.{inter_prediction}
use Rattle.cabac_inter.specs.Stages.{predicted}
use Rattle.cabac_macroblock.specs.CodedBlockPattern.{pattern}
use Rattle.cabac_macroblock.specs.MacroblockLayer.{last_transform_size, coding, inter_elements}
use Rattle.cabac_macroblock.specs.MbType.{of_kind}
use Rattle.cabac_macroblock.specs.Stages.{before_pattern, before_last_t8, before_qp_delta}
use Rattle.cabac_macroblock.proofs.Absent.{t8_last, inter_predicted, no_samples, inter_other}
use Rattle.cabac_macroblock.proofs.TypeSteps.{writes_same}
use Rattle.cabac_macroblock.proofs.macroblock.write_inter_elements.Goals as goal

pub write_last_transform_size-requires-clause-sent : goal.write_last_transform_size-requires-clause-sent
write_last_transform_size-requires-clause-sent g c = t8_last c.args.shape.now c.args.mb.now c.requires.inter c.requires.valid.typed

pub returns-clause-writes : goal.returns-clause-writes
unfolding inter_elements
returns-clause-writes g c mbs stands =
    let shape = c.args.shape.now in
    let mb = c.args.mb.now in
    let step = g.S.BinSink.step in
    let first = inter_prediction shape mbs c.args.at (of_kind mb.field mb.kind) in
    let sized : Mb = record (before_pattern mb) { t8 = false } in
    let same = inter_predicted shape mb c.requires.inter c.requires.ref0 c.requires.valid ∙ ap (λ (m : Mb). record (before_pattern m) { t8 = false }) (sym (no_samples shape mb (inter_other mb.kind c.requires.inter) c.requires.valid)) in
    on_ok c.write_coding.result
    (λ written.
    writes_then step (first >>= pattern shape mbs c.args.at >>= last_transform_size shape mbs c.args.at) (coding shape mbs c.args.at) (before_qp_delta mb) mb _ _ _
    (writes_then step (first >>= pattern shape mbs c.args.at) (last_transform_size shape mbs c.args.at) (before_last_t8 mb) (before_qp_delta mb) _ _ _
    (writes_then step first (pattern shape mbs c.args.at) sized (before_last_t8 mb) _ _ _
    (writes_same step (inter_prediction shape mbs c.args.at) (of_kind mb.field mb.kind) (of_kind mb.field mb.kind) (predicted mb) sized _ _ refl same (c.in_ok-write_inter_prediction.ensures.writes mbs stands)) (c.in_ok-write_pattern.ensures.writes mbs false stands))
    (c.in_ok-write_last_transform_size.ensures.writes mbs stands)) written) (c.write_coding.ensures.writes mbs stands)
