use Rattle.std.proofs.Common.{◌+◌, ◌*◌, ◌^◌, ap, subst, arith}
use Rattle.cabac_engine.specs.Decoding.{Decoding}
use Rattle.cabac_engine.specs.OffsetBits.{Doubles}
use Rattle.cabac_engine.proofs.Refilling.{refilled, offset_room}
use Rattle.cabac_engine.proofs.decoder.Decoder.refill.Goals as goal

pub double-requires-clause-few : goal.double-requires-clause-few
double-requires-clause-few g c = (offset_room c.args.range c.args.self.now.offset c.args.count c.requires.some c.requires.nine_bits c.requires.within c.requires.count).few

pub double-requires-clause-fits : goal.double-requires-clause-fits
double-requires-clause-fits g c =
    let r = offset_room c.args.range c.args.self.now.offset c.args.count c.requires.some c.requires.nine_bits c.requires.within c.requires.count in
    omega (arith, r.fits, ap (λ (d : Decoding). (d.offset + 1) * 2 ^ c.args.count) c.self.view_is)

pub invariant_of-self-2 : goal.invariant_of-self-2
invariant_of-self-2 g c =
    let n = c.args.count in
    let d = subst (λ (d : Decoding). Doubles n d.offset c.double.new.self.offset d.left c.double.new.self.left) c.self.view_is c.if-not-double.ensures.doubled in
    let r = refilled c.args.range c.args.self.now.offset n _ _ _ c.requires.some c.requires.nine_bits c.requires.within c.requires.count d in
    ((offset_room c.args.range c.args.self.now.offset n c.requires.some c.requires.nine_bits c.requires.within c.requires.count).range_high, λ _. r.within)

pub returns-clause-answer : goal.returns-clause-answer
returns-clause-answer g c =
    let n = c.args.count in
    let d = subst (λ (d : Decoding). Doubles n d.offset c.double.new.self.offset d.left c.double.new.self.left) c.self.view_is c.if-not-double.ensures.doubled in
    refilled c.args.range c.args.self.now.offset n _ _ _ c.requires.some c.requires.nine_bits c.requires.within c.requires.count d
