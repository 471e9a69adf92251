use Rattle.std.proofs.Common.{◌+◌, ◌<◌, ◌^◌, ap, sym, sum, arith}
use Rattle.bit_texts.proofs.Numbers.{from_bool-most}
use Rattle.cabac_engine.specs.LowBits.{Pending}
use Rattle.cabac_engine.proofs.Carries.{Adds-settled}
use Rattle.cabac_engine.proofs.pending_bits.PendingBits.settle.Goals as goal

pub returns-clause-bits : goal.returns-clause-bits
returns-clause-bits g c =
    let low : c.self.inside.held + 1 < 2 ^ c.self.inside.count = c.self.invariant.2 (omega (arith, c.if-self-eq0.false)) in
    Adds-settled (g.B.BitSink.bits c.self.inside.sink) _ _ c.args.self.now.bits c.self.inside.count c.self.inside.held (sum c.self.inside.outstanding.items)
    (c.self.inside.held + c.from.result) (sum c.release.new.outstanding.items) c.args.carry (sym (ap (λ (p : Pending). p.bits) c.self.view_is))
    c.self.invariant.1 (omega (arith, low, c.from.ensures, from_bool-most c.args.carry)) (ap (λ k. c.self.inside.held + k) c.from.ensures)
    c.in_ok-put_bits.ensures c.in_ok-release.ensures.bits c.in_ok-release.ensures.none
