use Rattle.std.proofs.Common.{◌≤◌, ap, arith, subst, sym, true, false}
use Rattle.cabac_interval.specs.Interval.{bypass, with_bin}
use Rattle.cabac_engine.specs.Decoding.{Decoding, HasDecoded}
use Rattle.cabac_engine.specs.OffsetBits.{Offset}
use Rattle.cabac_engine.proofs.Decoded.{bypass_lower, bypass_upper, HasDecoded-fields}
use Rattle.cabac_engine.proofs.decoder.Decoder.bypass.Goals as goal

pub returns-then-wrap-clause-answer : goal.returns-then-wrap-clause-answer
returns-then-wrap-clause-answer g c = λ all bins h.
    let running : 256 ≤ c.self.inside.range = omega (arith, c.requires, ap (λ (d : Decoding). d.range) c.self.view_is) in
    let same = c.wrap.ensures.below c.if-wrap.true in
    subst (λ (o : Offset). HasDecoded all (with_bin bins bypass false) c.self.inside.range o.offset o.left) (sym same.1)
    (bypass_lower c.self.inside.range c.self.inside.offset.offset _ c.self.inside.offset.left _ running c.if-not-double.ensures.doubled same.0 all bins
    (HasDecoded-fields c.self.inside.range c.self.inside.offset.offset c.self.inside.offset.taken c.self.inside.offset.left c.args.self.now c.self.view_is all bins h))

pub invariant_of-self-2 : goal.invariant_of-self-2
invariant_of-self-2 g c =
    let running : 256 ≤ c.self.inside.range = omega (arith, c.requires, ap (λ (d : Decoding). d.range) c.self.view_is) in
    let lower = c.wrap.ensures.above c.if-wrap.false in
    let b = bypass_upper c.self.inside.range c.self.inside.offset.offset _ c.self.inside.offset.left _ running (c.self.invariant.1 running) c.if-not-double.ensures.doubled lower.0 in
    (c.self.invariant.0, λ _. omega (arith, b.0, ap (λ (o : Offset). o.offset) lower.1))

pub returns-clause-answer : goal.returns-clause-answer
returns-clause-answer g c = λ all bins h.
    let running : 256 ≤ c.self.inside.range = omega (arith, c.requires, ap (λ (d : Decoding). d.range) c.self.view_is) in
    let lower = c.wrap.ensures.above c.if-wrap.false in
    let b = bypass_upper c.self.inside.range c.self.inside.offset.offset _ c.self.inside.offset.left _ running (c.self.invariant.1 running) c.if-not-double.ensures.doubled lower.0 in
    subst (λ (o : Offset). HasDecoded all (with_bin bins bypass true) c.self.inside.range o.offset o.left) (sym lower.1)
    (b.1 all bins (HasDecoded-fields c.self.inside.range c.self.inside.offset.offset c.self.inside.offset.taken c.self.inside.offset.left c.args.self.now c.self.view_is all bins h))
