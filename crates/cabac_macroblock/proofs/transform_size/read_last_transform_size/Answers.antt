use Rattle.std.proofs.Common.{ap, sym, refl, ◌∙◌}
use Rattle.std.specs.Option.{option_map}
use Rattle.cabac_macroblock.proofs.Puts.{unread}
use Rattle.cabac_macroblock.proofs.CodingSteps.{reads_last_t8, reads_last_t8_none, reads_last_t8_unsent}
use Rattle.cabac_macroblock.proofs.transform_size.read_last_transform_size.Goals as goal

pub returns-in_err-mb-clause-reads : goal.returns-in_err-mb-clause-reads
returns-in_err-mb-clause-reads g c mbs stands =
    unread _ _ _ _ _ (ap (option_map _) c.from_residual.ensures)
    (reads_last_t8_none g.S.BinSource.step c.args.shape.now mbs c.args.at c.args.mb.now _ _ _ (sym c.sends_t8_last.ensures ∙ c.if-sends_t8_last.true) (c.ctx_inc_t8.ensures.value mbs stands) c.in_err-mb.ensures.reads)

pub returns-in_ok-mb-clause-reads : goal.returns-in_ok-mb-clause-reads
returns-in_ok-mb-clause-reads g c mbs stands =
    reads_last_t8 g.S.BinSource.step c.args.shape.now mbs c.args.at c.args.mb.now _ _ _ _ _ (sym c.sends_t8_last.ensures ∙ c.if-sends_t8_last.true) (c.ctx_inc_t8.ensures.value mbs stands) refl c.in_ok-mb.ensures.reads

pub returns-else-sends_t8_last-clause-reads : goal.returns-else-sends_t8_last-clause-reads
returns-else-sends_t8_last-clause-reads g c mbs stands = reads_last_t8_unsent g.S.BinSource.step c.args.shape.now mbs c.args.at c.args.mb.now _ (sym c.sends_t8_last.ensures ∙ c.if-sends_t8_last.false)
