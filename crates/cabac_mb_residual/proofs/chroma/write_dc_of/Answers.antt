use Rattle.std.proofs.Common.{◌≡◌, ap, length, get_or, [], rules, ◌∙◌, sym}
use Rattle.h264_types.specs.declared.macroblock.Pattern.{Pattern}
use Rattle.h264_types.specs.Macroblock.{pattern_of}
use Rattle.binarisation.proofs.Strings.{on_ok}
use Rattle.cabac_contexts.specs.Terms.{chroma_dc_of}
use Rattle.cabac_mb_residual.proofs.Lists.{is_chroma, no_chroma}
use Rattle.cabac_mb_residual.proofs.Written.{small_chroma_dc, writes_chroma_dc, writes_no_chroma_dc}
use Rattle.cabac_mb_residual.proofs.chroma.write_dc_of.Goals as goal

pub returns-then-coded_pattern-eq0-clause-writes : goal.returns-then-coded_pattern-eq0-clause-writes
returns-then-coded_pattern-eq0-clause-writes g c mbs stands =
    let none = is_chroma c.args.mb.now c.coded_pattern.result 0 c.coded_pattern.ensures c.if-coded_pattern-eq0.true in
    let zero : (pattern_of c.args.mb.now).chroma ≡ 0 = ap (λ (p : Pattern). p.chroma) (sym c.coded_pattern.ensures) ∙ c.if-coded_pattern-eq0.true in
    writes_no_chroma_dc g.S.BinSink.step c.args.shape.now mbs c.args.at c.args.comp c.args.mb.now _ c.requires.sizes c.requires.residual c.requires.comp none zero

pub write_levels-requires-clause-small : goal.write_levels-requires-clause-small
write_levels-requires-clause-small g c = rw c.from.ensures (small_chroma_dc c.args.mb.now c.args.comp c.requires.comp c.requires.sizes c.requires.residual)

pub returns-clause-writes : goal.returns-clause-writes
returns-clause-writes g c mbs stands =
    let some = no_chroma c.args.mb.now c.coded_pattern.result 0 c.coded_pattern.ensures c.if-coded_pattern-eq0.false in
    let size : length (get_or c.args.mb.now.chroma_dc c.from.result []) ≡ 4 = search rules in
    on_ok c.write_levels.result
    (λ written. writes_chroma_dc g.S.BinSink.step c.args.shape.now mbs c.args.at c.args.comp c.args.mb.now c.ctx_inc_block-inc.result _ c.is_field.result _ _ _ c.requires.picture c.requires.sizes c.requires.comp some (c.ctx_inc_block-inc.ensures.value mbs stands) c.is_field.ensures size (ap (chroma_dc_of c.args.mb.now) c.from.ensures) written) c.write_levels.ensures.writes
