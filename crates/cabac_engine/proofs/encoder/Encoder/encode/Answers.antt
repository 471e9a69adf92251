use Rattle.std.proofs.Common.{◌-◌, ap, refl}
use Rattle.cabac_interval.specs.Interval.{context}
use Rattle.cabac_engine.specs.Encoding.{Encoding}
use Rattle.cabac_engine.proofs.Encoded.{encoded_lower, encoded_upper, context_lower, context_upper, lps_encoded, on_both}
use Rattle.cabac_engine.proofs.encoder.Encoder.encode.Goals as goal

pub returns-then-bit-cell-clause-bin : goal.returns-then-bit-cell-clause-bin
returns-then-bit-cell-clause-bin g c =
    let p = c.args.cell.p in
    let mps = c.args.cell.mps in
    let size = c.range_lps-lps.result in
    let range = ap (λ (e : Encoding). e.range) c.self.view_is in
    let lps = lps_encoded p size c.self.inside.range c.args.self.now.range c.range_lps-lps.ensures.value range in
    on_both c.renormalise.result
    (λ opened doubled. encoded_lower (context p mps) c.args.bit size _ c.args.self.now c.renormalise.new.self c.args.cell.state refl c.requires opened (ap (λ k. k - size) range)
    (context_lower p size mps c.args.bit c.args.self.now.range lps c.if-bit-cell.true) doubled)
    c.renormalise.ensures.open c.renormalise.ensures.doubled

pub returns-else-bit-cell-clause-bin : goal.returns-else-bit-cell-clause-bin
returns-else-bit-cell-clause-bin g c =
    let p = c.args.cell.p in
    let mps = c.args.cell.mps in
    let size = c.range_lps-lps.result in
    let range = ap (λ (e : Encoding). e.range) c.self.view_is in
    let lps = lps_encoded p size c.self.inside.range c.args.self.now.range c.range_lps-lps.ensures.value range in
    on_both c.renormalise-else-bit-cell.result
    (λ opened doubled. encoded_upper (context p mps) c.args.bit size _ c.args.self.now c.renormalise-else-bit-cell.new.self c.args.cell.state refl c.requires opened (ap (λ k. k - size) range)
    (context_upper p size mps c.args.bit c.args.self.now.range lps c.if-bit-cell.false) doubled)
    c.renormalise-else-bit-cell.ensures.open c.renormalise-else-bit-cell.ensures.doubled
