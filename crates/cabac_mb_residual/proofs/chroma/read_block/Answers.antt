use Rattle.std.proofs.Common.{◌≡◌, ap, ◌∙◌, length, get_or, [], rules}
use Rattle.cabac_mb_residual.specs.MacroblockResidual.{with_chroma_block}
use Rattle.cabac_mb_residual.proofs.Lists.{reads_chroma_block}
use Rattle.cabac_mb_residual.proofs.chroma.read_block.Goals as goal

pub returns-clause-reads : goal.returns-clause-reads
returns-clause-reads g c mbs stands =
    let size : length (get_or (get_or c.args.mb.now.chroma_ac c.from.result []) c.from-2.result []) ≡ 15 = search rules in
    reads_chroma_block g.S.BinSource.step c.args.shape.now mbs c.args.at c.args.comp c.args.n c.args.mb.now (with_chroma_block c.from.result c.from-2.result c.args.mb.now c.read_levels.new.levels) c.ctx_inc_block-inc.result _ c.is_field-field.result c.read_levels.new.levels c.read_levels.result _ _
    (c.ctx_inc_block-inc.ensures.value mbs stands) c.is_field-field.ensures size
    (ap (λ comp. with_chroma_block comp c.from-2.result c.args.mb.now c.read_levels.new.levels) c.from.ensures ∙ ap (λ n. with_chroma_block c.args.comp n c.args.mb.now c.read_levels.new.levels) c.from-2.ensures) c.read_levels.ensures.reads
