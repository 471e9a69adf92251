use Rattle.std.proofs.Common.{◌-◌, false, ap, refl, subst, sym}
use Rattle.cabac_interval.specs.Interval.{terminate}
use Rattle.cabac_engine.specs.Encoding.{Encoding, Encodes}
use Rattle.cabac_engine.proofs.Encoded.{encoded_lower}
use Rattle.cabac_engine.proofs.encoder.Encoder.end.Goals as goal

pub returns-in_ok-renormalise-clause-bin : goal.returns-in_ok-renormalise-clause-bin
returns-in_ok-renormalise-clause-bin g c =
    subst (λ b. Encodes terminate b c.args.self.now c.renormalise.new.self) (sym c.if-bit.false)
    (encoded_lower terminate false 2 _ c.args.self.now c.renormalise.new.self tt refl c.requires c.in_ok-renormalise.ensures.open
    (ap (λ (e : Encoding). e.range - 2) c.self.view_is) (λ i e. refl) c.in_ok-renormalise.ensures.doubled)
