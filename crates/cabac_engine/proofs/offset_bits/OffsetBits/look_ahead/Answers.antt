use Rattle.std.proofs.Common.{ap, ◌∙◌, arith, ◌≤◌, ◌^◌, min}
use Rattle.bit_texts.proofs.Numbers.{pow_most}
use Rattle.cabac_engine.proofs.Offsets.{looked}
use Rattle.cabac_engine.proofs.offset_bits.OffsetBits.look_ahead.Goals as goal

pub overflow_add-self : goal.overflow_add-self
overflow_add-self g c =
    let f = c.self.inside in
    let i = c.self.invariant in
    let l = looked c.skip.result f.value f.ready f.ahead c.window.result c.min-ready.result (g.B.BitSource.taken f.source) (g.B.BitSource.left f.source) _ (g.B.BitSource.left c.skip.new.self) c.args.self.now
    c.self.view_is i.2 i.3 c.skip.ensures.skipped c.skip.ensures.kept (c.min-ready.ensures ∙ ap (λ k. min k 48) c.ready.ensures) c.window.ensures in
    let most : 2 ^ c.min-ready.result ≤ 281474976710656 = pow_most c.min-ready.result 48 l.most in
    omega (arith, l.below, most)

pub invariant_of-self : goal.invariant_of-self
invariant_of-self g c =
    let f = c.self.inside in
    let i = c.self.invariant in
    let l = looked c.skip.result f.value f.ready f.ahead c.window.result c.min-ready.result (g.B.BitSource.taken f.source) (g.B.BitSource.left f.source) _ (g.B.BitSource.left c.skip.new.self) c.args.self.now
    c.self.view_is i.2 i.3 c.skip.ensures.skipped c.skip.ensures.kept (c.min-ready.ensures ∙ ap (λ k. min k 48) c.ready.ensures) c.window.ensures in
    (omega arith, l.most, l.enough, l.below, l.ready_is)

pub returns : goal.returns
returns g c =
    let f = c.self.inside in
    let i = c.self.invariant in
    (looked c.skip.result f.value f.ready f.ahead c.window.result c.min-ready.result (g.B.BitSource.taken f.source) (g.B.BitSource.left f.source) _ (g.B.BitSource.left c.skip.new.self) c.args.self.now
    c.self.view_is i.2 i.3 c.skip.ensures.skipped c.skip.ensures.kept (c.min-ready.ensures ∙ ap (λ k. min k 48) c.ready.ensures) c.window.ensures).view_is
