use Rattle.std.proofs.Common.{◌≡◌, ap, length, get_or, [], refl, rules}
use Rattle.cabac_mb_residual.specs.MacroblockResidual.{with_quarter}
use Rattle.cabac_mb_residual.proofs.Lists.{reads_eight, quarter-none, quarter-blocks}
use Rattle.cabac_mb_residual.proofs.luma.read_quarter.Goals as goal

pub returns-then-not-has_luma-clause-reads : goal.returns-then-not-has_luma-clause-reads
returns-then-not-has_luma-clause-reads g c mbs stands =
    rw (quarter-none c.args.shape.now mbs c.args.at c.args.quarter c.args.mb.now c.has_luma.result c.if-not-has_luma.true c.has_luma.ensures) (refl, refl)

pub returns-then-mb-clause-reads : goal.returns-then-mb-clause-reads
returns-then-mb-clause-reads g c mbs stands =
    let size : length (get_or c.args.mb.now.luma c.from.result []) ≡ 64 = search rules in
    reads_eight g.S.BinSource.step c.args.shape.now mbs c.args.at c.args.quarter c.args.mb.now (with_quarter c.from.result c.args.mb.now c.read_levels.new.levels) _ c.has_luma.result c.is_field-field.result c.read_levels.new.levels c.read_levels.result _ _
    c.if-not-has_luma.false c.has_luma.ensures c.if-mb.true c.is_field-field.ensures size (ap (λ q. with_quarter q c.args.mb.now c.read_levels.new.levels) c.from.ensures) c.read_levels.ensures.reads

pub returns-clause-reads : goal.returns-clause-reads
returns-clause-reads g c mbs stands =
    rw (quarter-blocks c.args.shape.now mbs c.args.at c.args.quarter c.args.mb.now c.has_luma.result c.if-not-has_luma.false c.has_luma.ensures c.if-mb.false) (c.read_blocks.ensures.reads mbs stands)
