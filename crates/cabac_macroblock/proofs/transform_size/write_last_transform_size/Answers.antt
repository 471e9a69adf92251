use Rattle.std.proofs.Common.{sym, ◌∙◌}
use Rattle.binarisation.proofs.Strings.{on_ok}
use Rattle.cabac_macroblock.proofs.CodingSteps.{writes_last_t8, writes_last_t8_unsent}
use Rattle.cabac_macroblock.proofs.transform_size.write_last_transform_size.Goals as goal

pub returns-then-sends_t8_last-clause-writes : goal.returns-then-sends_t8_last-clause-writes
returns-then-sends_t8_last-clause-writes g c mbs stands = on_ok c.write_t8.result
    (λ written. writes_last_t8 g.S.BinSink.step c.args.shape.now mbs c.args.at c.args.mb.now _ _ _ c.requires.picture (sym c.sends_t8_last.ensures ∙ c.if-sends_t8_last.true) (c.ctx_inc_t8.ensures.value mbs stands) written) c.write_t8.ensures.writes

pub returns-clause-writes : goal.returns-clause-writes
returns-clause-writes g c mbs stands = writes_last_t8_unsent g.S.BinSink.step c.args.shape.now mbs c.args.at c.args.mb.now _ (sym c.sends_t8_last.ensures ∙ c.if-sends_t8_last.false) c.requires.sent
