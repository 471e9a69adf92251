use Rattle.std.proofs.Common.{sym, ◌∙◌}
use Rattle.binarisation.proofs.Strings.{on_ok}
use Rattle.cabac_macroblock.specs.MacroblockLayer.{without_samples}
use Rattle.cabac_macroblock.proofs.TypeSteps.{writes_skipped, writes_unskipped}
use Rattle.cabac_macroblock.proofs.Absent.{skipped_alone}
use Rattle.cabac_macroblock.proofs.macroblock.write_macroblock.Goals as goal

pub returns-then-is_skip-clause-writes : goal.returns-then-is_skip-clause-writes
returns-then-is_skip-clause-writes g c mbs stands =
    let mb = c.args.mb.now in
    let skipped = sym c.is_skip.ensures ∙ c.if-is_skip.true in
    writes_skipped g.S.BinSink.step c.args.shape.now mbs c.args.at mb.field _ (without_samples mb) _ _ skipped (skipped_alone c.args.shape.now mb skipped c.requires.ref0 c.requires.valid) (c.in_ok-write_skip.ensures.writes mbs stands.0)

pub returns-clause-writes : goal.returns-clause-writes
returns-clause-writes g c mbs stands =
    let mb = c.args.mb.now in
    on_ok c.write_layer.result
    (λ written. writes_unskipped g.S.BinSink.step c.args.shape.now mbs c.args.at mb.field _ (without_samples mb) _ _ _ (sym c.is_skip.ensures ∙ c.if-is_skip.false) (c.in_ok-write_skip.ensures.writes mbs stands.0) written) (c.write_layer.ensures.writes mbs stands)
