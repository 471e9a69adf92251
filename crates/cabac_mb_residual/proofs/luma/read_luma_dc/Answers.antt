use Rattle.std.proofs.Common.{◌≡◌, length, refl, sym, ◌∙◌, rules}
use Rattle.cabac_mb_residual.proofs.Lists.{reads_luma_dc, luma_dc-none}
use Rattle.cabac_mb_residual.proofs.luma.read_luma_dc.Goals as goal

pub returns-then-not-is_i_16x16-clause-reads : goal.returns-then-not-is_i_16x16-clause-reads
returns-then-not-is_i_16x16-clause-reads g c mbs stands =
    rw (luma_dc-none c.args.shape.now mbs c.args.at c.args.mb.now (sym c.is_i_16x16.ensures ∙ c.if-not-is_i_16x16.true)) (refl, refl)

pub returns-clause-reads : goal.returns-clause-reads
returns-clause-reads g c mbs stands =
    let size : length c.args.mb.now.dc ≡ 16 = search rules in
    reads_luma_dc g.S.BinSource.step c.args.shape.now mbs c.args.at c.args.mb.now _ c.ctx_inc_block-inc.result (length c.args.mb.now.dc) c.is_field-field.result c.read_levels.new.levels c.read_levels.result _ _ (sym c.is_i_16x16.ensures ∙ c.if-not-is_i_16x16.false) (c.ctx_inc_block-inc.ensures.value mbs stands) c.is_field-field.ensures size refl c.read_levels.ensures.reads
