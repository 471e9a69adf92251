use Rattle.std.proofs.Common.{◌-◌, ap, ◌∙◌, arith}
use Rattle.cabac_engine.specs.OffsetBits.{Offset}
use Rattle.cabac_engine.proofs.Offsets.{skipped}
use Rattle.cabac_engine.proofs.offset_bits.OffsetBits.into_source.Goals as goal

pub returns-clause-taken : goal.returns-clause-taken
returns-clause-taken g c =
    let f = c.self.inside in
    (skipped c.skip.result (f.ahead - f.ready) (g.B.BitSource.taken f.source) (g.B.BitSource.left f.source) _ _ (omega (arith, c.self.invariant)) c.skip.ensures.skipped c.skip.ensures.kept).1
    ∙ ap (λ (o : Offset). o.taken) c.self.view_is
