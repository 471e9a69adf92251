use Rattle.std.proofs.Common.{sym, refl, ◌∙◌}
use Rattle.binarisation.proofs.Strings.{writes_then, on_ok}
use Rattle.cabac_mb_residual.specs.MacroblockResidual.{residual}
use Rattle.cabac_mb_residual.specs.Levels.{without_levels}
use Rattle.cabac_macroblock.specs.MacroblockLayer.{qp_delta}
use Rattle.cabac_macroblock.specs.Stages.{before_qp_delta}
use Rattle.cabac_macroblock.proofs.CodingSteps.{coding_sent, coding_unsent}
use Rattle.cabac_macroblock.proofs.Absent.{no_coding}
use Rattle.cabac_macroblock.proofs.coding.write_coding.Goals as goal

pub returns-then-not-sends_qp_delta-clause-writes : goal.returns-then-not-sends_qp_delta-clause-writes
returns-then-not-sends_qp_delta-clause-writes g c mbs stands =
    let mb = c.args.mb.now in
    let unsent = sym c.sends_qp_delta.ensures ∙ c.if-not-sends_qp_delta.true in
    rw (coding_unsent c.args.shape.now mbs c.args.at (before_qp_delta mb) unsent) (sym (no_coding mb c.requires.sizes unsent c.requires.delta c.requires.residual.luma c.requires.residual.chroma), refl)

pub returns-clause-writes : goal.returns-clause-writes
returns-clause-writes g c mbs stands =
    let shape = c.args.shape.now in
    let mb = c.args.mb.now in
    let sent = sym c.sends_qp_delta.ensures ∙ c.if-not-sends_qp_delta.false in
    on_ok c.write_residual.result
    (λ written. rw (coding_sent shape mbs c.args.at (before_qp_delta mb) sent) (writes_then g.S.BinSink.step (qp_delta mbs c.args.at (before_qp_delta mb)) (residual shape mbs c.args.at) (without_levels mb) mb _ _ _
    (c.in_ok-write_delta.ensures.writes mbs stands) written)) (c.write_residual.ensures.writes mbs stands)
