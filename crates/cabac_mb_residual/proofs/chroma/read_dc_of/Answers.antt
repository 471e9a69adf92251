use Rattle.std.proofs.Common.{◌≡◌, ap, length, get_or, [], refl, rules}
use Rattle.cabac_mb_residual.specs.MacroblockResidual.{with_chroma_dc}
use Rattle.cabac_mb_residual.proofs.Lists.{reads_chroma_dc, chroma_dc-none, is_chroma, no_chroma}
use Rattle.cabac_mb_residual.proofs.chroma.read_dc_of.Goals as goal

pub returns-then-coded_pattern-eq0-clause-reads : goal.returns-then-coded_pattern-eq0-clause-reads
returns-then-coded_pattern-eq0-clause-reads g c mbs stands =
    let none = is_chroma c.args.mb.now c.coded_pattern.result 0 c.coded_pattern.ensures c.if-coded_pattern-eq0.true in
    rw (chroma_dc-none c.args.shape.now mbs c.args.at c.args.comp c.args.mb.now none) (refl, refl)

pub returns-clause-reads : goal.returns-clause-reads
returns-clause-reads g c mbs stands =
    let some = no_chroma c.args.mb.now c.coded_pattern.result 0 c.coded_pattern.ensures c.if-coded_pattern-eq0.false in
    let size : length (get_or c.args.mb.now.chroma_dc c.from.result []) ≡ 4 = search rules in
    reads_chroma_dc g.S.BinSource.step c.args.shape.now mbs c.args.at c.args.comp c.args.mb.now (with_chroma_dc c.from.result c.args.mb.now c.read_levels.new.levels) c.ctx_inc_block-inc.result _ c.is_field-field.result c.read_levels.new.levels c.read_levels.result _ _
    some (c.ctx_inc_block-inc.ensures.value mbs stands) c.is_field-field.ensures size (ap (λ comp. with_chroma_dc comp c.args.mb.now c.read_levels.new.levels) c.from.ensures) c.read_levels.ensures.reads
