use Rattle.std.proofs.Common.{◌≡◌, ap, length, take, ◌∙◌, arith}
use Rattle.std.proofs.lemmas.List.{length-take-le}
use Rattle.h264_types.specs.Macroblock.{luma_block}
use Rattle.binarisation.proofs.Strings.{on_ok}
use Rattle.cabac_mb_residual.specs.MacroblockResidual.{luma_max}
use Rattle.cabac_mb_residual.proofs.Lists.{luma_max-most}
use Rattle.cabac_mb_residual.proofs.Written.{small_block, writes_luma4}
use Rattle.cabac_mb_residual.proofs.luma.write_luma4.Goals as goal

pub write_levels-requires-clause-small : goal.write_levels-requires-clause-small
write_levels-requires-clause-small g c = rw c.block.ensures.value (small_block c.args.mb.now c.args.n c.from.result c.requires.n c.requires.residual)

pub returns-clause-writes : goal.returns-clause-writes
returns-clause-writes g c mbs stands =
    let max : c.from.result ≡ luma_max c.args.mb.now.kind = c.from.ensures ∙ c.luma_max-max.ensures in
    let most = luma_max-most c.args.mb.now.kind in
    let size : length (take c.from.result c.block.result.now) ≡ luma_max c.args.mb.now.kind = length-take-le c.from.result c.block.result.now (omega (arith, c.block.ensures.length, max, most)) ∙ max in
    on_ok c.write_levels.result
    (λ written. writes_luma4 g.S.BinSink.step c.args.shape.now mbs c.args.at c.args.n c.args.mb.now c.luma_cat-cat.result c.ctx_inc_block-inc.result _ c.is_field.result _ _ _ c.requires.picture c.requires.sizes c.requires.residual c.requires.n
    c.luma_cat-cat.ensures (c.ctx_inc_block-inc.ensures.value mbs stands) c.is_field.ensures size (ap (take c.from.result) c.block.ensures.value ∙ ap (λ k. take k (luma_block c.args.mb.now c.args.n)) max) written) c.write_levels.ensures.writes
