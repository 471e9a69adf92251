use Rattle.binarisation.proofs.Strings.{on_ok}
use Rattle.cabac_macroblock.specs.MacroblockLayer.{without_samples}
use Rattle.cabac_macroblock.proofs.TypeSteps.{writes_layer}
use Rattle.cabac_macroblock.proofs.macroblock.write_layer.Goals as goal

pub returns-clause-writes : goal.returns-clause-writes
returns-clause-writes g c mbs stands =
    let mb = c.args.mb.now in
    on_ok c.write_elements.result
    (λ written. writes_layer g.S.BinSink.step c.args.shape.now mbs c.args.at mb.field mb.kind (without_samples mb) _ _ _ (c.in_ok-write_type.ensures.writes mbs stands) written) (c.write_elements.ensures.writes mbs stands)
