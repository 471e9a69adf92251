use Rattle.std.proofs.Common.{◌+◌, ◌*◌, ◌/◌, ap, arith}
use Rattle.std.proofs.lemmas.Result.{IfOk-weaker}
use Rattle.cabac_engine.specs.Encoding.{Encoding, Closes}
use Rattle.cabac_engine.specs.LowBits.{Adds}
use Rattle.cabac_engine.proofs.Registers.{last_bit_one}
use Rattle.cabac_engine.proofs.Encoded.{closed}
use Rattle.cabac_engine.proofs.encoder.Encoder.close.Goals as goal

pub returns : goal.returns
returns g c = λ before bins h.
    let l = c.self.inside.low in
    IfOk-weaker c.finish.result (λ sink. Adds (9 + l.gathered) (l.register / 2 * 2 + 1) l.pending.bits (g.B.BitSink.bits sink)) (λ sink. Closes before bins (g.B.BitSink.bits sink))
    (λ sink a. closed before (g.B.BitSink.bits sink) bins c.args.self c.requires h
    (omega (arith, a.size, ap (λ (e : Encoding). e.size) c.self.view_is))
    (omega (arith, a.number_is, ap (λ (e : Encoding). e.number) c.self.view_is, last_bit_one l.pending.bits l.gathered l.register)))
    c.finish.ensures
