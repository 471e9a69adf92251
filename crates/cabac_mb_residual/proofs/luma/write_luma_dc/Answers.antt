use Rattle.std.proofs.Common.{length, sym, ◌∙◌}
use Rattle.binarisation.proofs.Strings.{on_ok}
use Rattle.cabac_mb_residual.proofs.Written.{small_dc, writes_luma_dc, writes_no_luma_dc}
use Rattle.cabac_mb_residual.proofs.luma.write_luma_dc.Goals as goal

pub returns-then-not-is_i_16x16-clause-writes : goal.returns-then-not-is_i_16x16-clause-writes
returns-then-not-is_i_16x16-clause-writes g c mbs stands =
    writes_no_luma_dc g.S.BinSink.step c.args.shape.now mbs c.args.at c.args.mb.now _ c.requires.sizes c.requires.residual (sym c.is_i_16x16.ensures ∙ c.if-not-is_i_16x16.true)

pub write_levels-requires-clause-small : goal.write_levels-requires-clause-small
write_levels-requires-clause-small g c = small_dc c.args.mb.now c.requires.residual

pub returns-clause-writes : goal.returns-clause-writes
returns-clause-writes g c mbs stands = on_ok c.write_levels.result
    (λ written. writes_luma_dc g.S.BinSink.step c.args.shape.now mbs c.args.at c.args.mb.now c.ctx_inc_block-inc.result (length c.args.mb.now.dc) c.is_field.result _ _ c.requires.picture c.requires.sizes (sym c.is_i_16x16.ensures ∙ c.if-not-is_i_16x16.false) (c.ctx_inc_block-inc.ensures.value mbs stands) c.is_field.ensures c.requires.sizes.dc written) c.write_levels.ensures.writes
