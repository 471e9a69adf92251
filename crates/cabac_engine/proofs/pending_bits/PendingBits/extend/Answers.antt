use Rattle.std.proofs.Common.{◌≡◌, ◌+◌, ◌^◌, sum, ap, sym, ◌∙◌, arith, eqb-true}
use Rattle.std.proofs.lemmas.Result.{on_ok_weaker}
use Rattle.cabac_engine.specs.LowBits.{Pending}
use Rattle.cabac_engine.proofs.Registers.{one_shifted}
use Rattle.cabac_engine.proofs.Carries.{Adds-then, Adds-held, Adds-written, Adds-outstanding, OnOk-Appends}
use Rattle.cabac_engine.proofs.pending_bits.PendingBits.extend.Goals as goal

pub returns-then-bits-count-clause-bits : goal.returns-then-bits-count-clause-bits
returns-then-bits-count-clause-bits g c =
    let none : c.self.inside.count ≡ 0 = eqb-true _ _ (ap (λ (p : Pending). p.settled) c.self.view_is ∙ c.in_ok-settle.ensures.settled) in
    Adds-then c.args.count 0 c.args.bits c.args.bits c.args.self.now.bits c.settle.new.self.bits _ c.in_ok-settle.ensures.bits
    (Adds-held (g.B.BitSink.bits c.self.inside.sink) c.settle.new.self.bits c.self.inside.count c.self.inside.held (sum c.self.inside.outstanding.items) c.args.count c.args.bits
    (sym (ap (λ (p : Pending). p.bits) c.self.view_is)) none c.self.invariant.1 (c.self.invariant.3 none) c.requires.fits)
    (omega arith)

pub returns-then-self-eq0-clause-bits : goal.returns-then-self-eq0-clause-bits
returns-then-self-eq0-clause-bits g c =
    on_ok_weaker c.put_bits.result
    (λ put. Adds-written (g.B.BitSink.bits c.self-2.inside.sink) (g.B.BitSink.bits c.put_bits.new.self) c.args.self.now.bits c.self-2.inside.count c.self-2.inside.held
    (sum c.self-2.inside.outstanding.items) c.args.count c.args.bits (sym (ap (λ (p : Pending). p.bits) c.self-2.view_is)) c.if-self-eq0.true c.self-2.invariant.1
    (c.self-2.invariant.3 c.if-self-eq0.true) c.requires.fits put)
    (OnOk-Appends _ _ _ c.put_bits.result c.put_bits.ensures)

pub returns-else-self-eq0-clause-bits : goal.returns-else-self-eq0-clause-bits
returns-else-self-eq0-clause-bits g c =
    let ones : c.args.bits + 1 ≡ 2 ^ c.args.count = omega (arith, c.if-bits-count.false, one_shifted c.args.count c.requires.few, c.requires.fits) in
    on_ok_weaker c.count_more.result
    (Adds-outstanding (g.B.BitSink.bits c.self-2.inside.sink) c.args.self.now.bits c.self-2.inside.count c.self-2.inside.held
    (sum c.self-2.inside.outstanding.items) (sum c.count_more.new.outstanding.items) c.args.count c.args.bits (sym (ap (λ (p : Pending). p.bits) c.self-2.view_is))
    c.self-2.invariant.1 ones)
    c.count_more.ensures.ok
