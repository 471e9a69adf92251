use Rattle.std.proofs.Common.{◌≡◌, ap, length, get_or, [], rules, ◌∙◌}
use Rattle.binarisation.proofs.Strings.{on_ok}
use Rattle.cabac_contexts.specs.Terms.{chroma_ac_of}
use Rattle.cabac_mb_residual.proofs.Written.{small_chroma_ac, writes_chroma_block}
use Rattle.cabac_mb_residual.proofs.chroma.write_block.Goals as goal

pub write_levels-requires-clause-small : goal.write_levels-requires-clause-small
write_levels-requires-clause-small g c =
    rw (c.from.ensures, c.from-2.ensures) (small_chroma_ac c.args.mb.now c.args.comp c.args.n c.requires.comp c.requires.n c.requires.sizes c.requires.residual)

pub returns-clause-writes : goal.returns-clause-writes
returns-clause-writes g c mbs stands =
    let size : length (get_or (get_or c.args.mb.now.chroma_ac c.from.result []) c.from-2.result []) ≡ 15 = search rules in
    on_ok c.write_levels.result
    (λ written. writes_chroma_block g.S.BinSink.step c.args.shape.now mbs c.args.at c.args.comp c.args.n c.args.mb.now c.ctx_inc_block-inc.result _ c.is_field.result _ _ _ c.requires.picture c.requires.sizes c.requires.comp c.requires.n (c.ctx_inc_block-inc.ensures.value mbs stands) c.is_field.ensures size
    (ap (λ k. chroma_ac_of c.args.mb.now k c.from-2.result) c.from.ensures ∙ ap (chroma_ac_of c.args.mb.now c.args.comp) c.from-2.ensures) written) c.write_levels.ensures.writes
