use Rattle.std.proofs.Common.{◌≡◌, ap, refl, Some, None, [], pos, length, take, replicate, ◌∙◌, arith}
use Rattle.std.specs.Option.{option_map}
use Rattle.cabac_residual.proofs.Blocks.{unread}
use Rattle.cabac_mb_residual.specs.MacroblockResidual.{with_luma4, filled}
use Rattle.cabac_mb_residual.proofs.Lists.{reads_luma4, luma_max-most, length-front, filled-front}
use Rattle.cabac_mb_residual.proofs.luma.read_luma4.Goals as goal

pub returns-in_err-read_levels-clause-reads : goal.returns-in_err-read_levels-clause-reads
returns-in_err-read_levels-clause-reads g c mbs stands =
    let size = length-front c.luma_max-max.result c.args.mb.now.kind c.from.result c.luma_max-max.ensures c.from.ensures in
    unread _ _ _ _ _ (ap (option_map _) c.from_residual.ensures)
    (reads_luma4 {U = Unit {0}} g.S.BinSource.step c.args.shape.now mbs c.args.at c.args.n c.args.mb.now (with_luma4 c.args.n c.args.mb.now (filled [])) c.luma_cat-cat.result c.ctx_inc_block-inc.result (length (take c.from.result (replicate 16 (pos 0)))) c.is_field-field.result [] None _ _
    c.luma_cat-cat.ensures (c.ctx_inc_block-inc.ensures.value mbs stands) c.is_field-field.ensures size refl c.in_err-read_levels.ensures.reads)

pub returns-clause-reads : goal.returns-clause-reads
returns-clause-reads g c mbs stands =
    let most = luma_max-most c.args.mb.now.kind in
    let size = length-front c.luma_max-max.result c.args.mb.now.kind c.from.result c.luma_max-max.ensures c.from.ensures in
    let front : length c.read_levels.new.levels ≡ length (take c.from.result (replicate 16 (pos 0))) = c.read_levels.auto.levels in
    let same : length c.read_levels.new.levels ≡ c.from.result = omega (arith, front, size, c.luma_max-max.ensures, c.from.ensures) in
    reads_luma4 {U = Unit {0}} g.S.BinSource.step c.args.shape.now mbs c.args.at c.args.n c.args.mb.now c.put_luma4.new.mb c.luma_cat-cat.result c.ctx_inc_block-inc.result (length (take c.from.result (replicate 16 (pos 0)))) c.is_field-field.result c.read_levels.new.levels (Some c.in_ok-read_levels.field-0) _ _
    c.luma_cat-cat.ensures (c.ctx_inc_block-inc.ensures.value mbs stands) c.is_field-field.ensures size (c.put_luma4.ensures ∙ ap (with_luma4 c.args.n c.args.mb.now) (filled-front c.read_levels.new.levels c.from.result same)) c.in_ok-read_levels.ensures.reads
