use Rattle.std.proofs.Common.{◌≡◌, ap, length, get_or, [], pos, replicate, ◌∙◌, sym, rules}
use Rattle.binarisation.proofs.Strings.{on_ok}
use Rattle.h264_types.specs.Macroblock.{quarter_of}
use Rattle.cabac_mb_residual.proofs.Written.{small_quarter, writes_eight, writes_no_quarter, writes_blocks}
use Rattle.cabac_mb_residual.proofs.luma.write_quarter.Goals as goal

pub returns-then-not-has_luma-clause-writes : goal.returns-then-not-has_luma-clause-writes
returns-then-not-has_luma-clause-writes g c mbs stands =
    writes_no_quarter g.S.BinSink.step c.args.shape.now mbs c.args.at c.args.quarter c.args.mb.now c.has_luma.result _ c.requires.sizes c.requires.residual c.requires.quarter c.if-not-has_luma.true c.has_luma.ensures

pub write_levels-requires-clause-small : goal.write_levels-requires-clause-small
write_levels-requires-clause-small g c = rw c.from.ensures (small_quarter c.args.mb.now c.args.quarter c.requires.quarter c.requires.residual)

pub write_levels-requires-clause-some : goal.write_levels-requires-clause-some
write_levels-requires-clause-some g c = λ five zeros.
    let size : length (get_or c.args.mb.now.luma c.from.result []) ≡ 64 = search rules in
    let same = ap (quarter_of c.args.mb.now) c.from.ensures in
    c.requires.residual.some c.args.quarter c.requires.quarter c.if-mb.true (sym c.has_luma.ensures ∙ c.if-not-has_luma.false) (sym same ∙ zeros ∙ ap (λ k. replicate k (pos 0)) size)

pub returns-then-mb-clause-writes : goal.returns-then-mb-clause-writes
returns-then-mb-clause-writes g c mbs stands =
    let size : length (get_or c.args.mb.now.luma c.from.result []) ≡ 64 = search rules in
    on_ok c.write_levels.result
    (λ written. writes_eight g.S.BinSink.step c.args.shape.now mbs c.args.at c.args.quarter c.args.mb.now _ c.has_luma.result c.is_field.result _ _ _ c.requires.sizes c.requires.quarter c.if-not-has_luma.false c.has_luma.ensures c.if-mb.true c.is_field.ensures size (ap (quarter_of c.args.mb.now) c.from.ensures) written) c.write_levels.ensures.writes

pub returns-clause-writes : goal.returns-clause-writes
returns-clause-writes g c mbs stands = on_ok c.write_blocks.result
    (λ written. writes_blocks g.S.BinSink.step c.args.shape.now mbs c.args.at c.args.quarter c.args.mb.now c.has_luma.result _ _ c.if-not-has_luma.false c.has_luma.ensures c.if-mb.false written) (c.write_blocks.ensures.writes mbs stands)
