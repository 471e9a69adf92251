use Rattle.std.proofs.Common.{◌≡◌, sum, ap, sym, ◌∙◌, arith, eqb-true}
use Rattle.bit_texts.proofs.Numbers.{number-same}
use Rattle.cabac_engine.specs.LowBits.{Pending}
use Rattle.cabac_engine.proofs.Carries.{plain_is}
use Rattle.cabac_engine.proofs.pending_bits.PendingBits.finish.Goals as goal

pub returns : goal.returns
returns g c =
    let none : c.pending.inside.count ≡ 0 = eqb-true _ _ (ap (λ (p : Pending). p.settled) c.pending.view_is ∙ c.in_ok-settle.ensures.settled) in
    sym (plain_is (g.B.BitSink.bits c.pending.inside.sink) c.pending.inside.count c.pending.inside.held (sum c.pending.inside.outstanding.items) none c.pending.invariant.1 (c.pending.invariant.3 none))
    ∙ ap (λ (p : Pending). p.bits) c.pending.view_is
    ∙ number-same c.settle.new.self.bits c.args.self.bits (omega (arith, c.in_ok-settle.ensures.bits.size)) (omega (arith, c.in_ok-settle.ensures.bits.number_is))
