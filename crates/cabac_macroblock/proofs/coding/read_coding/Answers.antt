use Rattle.std.proofs.Common.{ap, sym, refl, ◌∙◌}
use Rattle.std.specs.Option.{option_map}
use Rattle.binarisation.proofs.Strings.{reads_then, reads_none}
use Rattle.cabac_mb_residual.specs.MacroblockResidual.{residual}
use Rattle.cabac_macroblock.specs.MacroblockLayer.{qp_delta}
use Rattle.cabac_macroblock.proofs.Puts.{unread}
use Rattle.cabac_macroblock.proofs.CodingSteps.{coding_sent, coding_unsent}
use Rattle.cabac_macroblock.proofs.coding.read_coding.Goals as goal

pub returns-in_err-read_delta-clause-reads : goal.returns-in_err-read_delta-clause-reads
returns-in_err-read_delta-clause-reads g c mbs stands =
    let shape = c.args.shape.now in
    let sent = sym c.sends_qp_delta.ensures ∙ c.if-sends_qp_delta.true in
    unread _ _ _ _ _ (ap (option_map _) c.from_residual.ensures)
    (rw (coding_sent shape mbs c.args.at c.args.mb.now sent) (reads_none g.S.BinSource.step (qp_delta mbs c.args.at c.args.mb.now) (residual shape mbs c.args.at) _ _ (c.in_err-read_delta.ensures.reads mbs stands)))

pub returns-in_err-read_residual-clause-reads : goal.returns-in_err-read_residual-clause-reads
returns-in_err-read_residual-clause-reads g c mbs stands =
    let shape = c.args.shape.now in
    let sent = sym c.sends_qp_delta.ensures ∙ c.if-sends_qp_delta.true in
    unread _ _ _ _ _ (ap (option_map _) c.from_residual-in_err-read_residual.ensures)
    (rw (coding_sent shape mbs c.args.at c.args.mb.now sent) (reads_then g.S.BinSource.step (qp_delta mbs c.args.at c.args.mb.now) (residual shape mbs c.args.at) c.read_delta.new.mb _ _ _ _ (c.in_ok-read_delta.ensures.reads mbs stands) (c.in_err-read_residual.ensures.reads mbs stands)))

pub returns-in_ok-read_residual-clause-reads : goal.returns-in_ok-read_residual-clause-reads
returns-in_ok-read_residual-clause-reads g c mbs stands =
    let shape = c.args.shape.now in
    let sent = sym c.sends_qp_delta.ensures ∙ c.if-sends_qp_delta.true in
    rw (coding_sent shape mbs c.args.at c.args.mb.now sent) (reads_then g.S.BinSource.step (qp_delta mbs c.args.at c.args.mb.now) (residual shape mbs c.args.at) c.read_delta.new.mb _ _ _ _ (c.in_ok-read_delta.ensures.reads mbs stands) (c.in_ok-read_residual.ensures.reads mbs stands))

pub returns-else-sends_qp_delta-clause-reads : goal.returns-else-sends_qp_delta-clause-reads
returns-else-sends_qp_delta-clause-reads g c mbs stands = rw (coding_unsent c.args.shape.now mbs c.args.at c.args.mb.now (sym c.sends_qp_delta.ensures ∙ c.if-sends_qp_delta.false)) (refl, refl)
