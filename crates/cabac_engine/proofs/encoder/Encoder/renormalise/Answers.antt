use Rattle.std.proofs.Common.{◌≡◌, ◌+◌, ◌*◌, ◌^◌, ap, sym, ◌∙◌, arith}
use Rattle.cabac_engine.specs.Encoding.{Encoding}
use Rattle.cabac_engine.proofs.Registers.{range_doubled, register_fits, room_scaled, room_less, number_of-renormalised}
use Rattle.cabac_engine.proofs.encoder.Encoder.renormalise.Goals as goal

pub keep-requires-clause-room : goal.keep-requires-clause-room
keep-requires-clause-room g c =
    let range = ap (λ (e : Encoding). e.range) c.self.view_is in
    let n = c.args.count in
    let d = range_doubled c.args.range n c.requires.count c.requires.some (omega (arith, c.requires.within, range, c.self.invariant.0)) in
    room_less _ _ _ (c.args.range * 2 ^ n) 1
    (room_scaled _ c.self.inside.low.gathered n c.self.inside.low.register c.self.inside.range (c.self.inside.low.register + c.from.result) c.args.range
    (c.self.invariant.1 (omega (arith, c.requires.open, range))) c.self.inside.low.few d.few c.requires.some (omega (arith, c.from.ensures, c.requires.within, range)))
    (omega (arith, d.low))

pub invariant_of-self : goal.invariant_of-self
invariant_of-self g c =
    let range = ap (λ (e : Encoding). e.range) c.self.view_is in
    let n = c.args.count in
    let d = range_doubled c.args.range n c.requires.count c.requires.some (omega (arith, c.requires.within, range, c.self.invariant.0)) in (
      omega (arith, d.whole, d.high),
      λ _. c.in-Ok.ensures.room _ (omega (arith, d.whole, d.high))
          (room_less _ _ _ (c.args.range * 2 ^ n) _
          (room_scaled _ c.self.inside.low.gathered n c.self.inside.low.register c.self.inside.range (c.self.inside.low.register + c.from.result) c.args.range
          (c.self.invariant.1 (omega (arith, c.requires.open, range))) c.self.inside.low.few d.few c.requires.some (omega (arith, c.from.ensures, c.requires.within, range)))
          (omega (arith, d.whole))),
    )

pub returns-in-Ok-clause-doubled : goal.returns-in-Ok-clause-doubled
returns-in-Ok-clause-doubled g c =
    let range = ap (λ (e : Encoding). e.range) c.self.view_is in
    let n = c.args.count in
    let e = c.requires.count in
    let d = range_doubled c.args.range n e c.requires.some (omega (arith, c.requires.within, range, c.self.invariant.0)) in
    let register = c.self.inside.low.register in
    let fits = register_fits _ c.self.inside.low.gathered n register c.self.inside.range (register + c.from.result)
    (c.self.invariant.1 (omega (arith, c.requires.open, range))) c.self.inside.low.few d.few (omega (arith, c.from.ensures, c.requires.within, range, c.requires.some)) in
    let skipped : c.from.result ≡ c.args.skipped = omega (arith, c.from.ensures) in
    record {
      size = omega (arith, c.in-Ok.ensures.size, ap (λ (x : Encoding). x.size) c.self.view_is, e);
      number_is = c.in-Ok.ensures.number
          ∙ number_of-renormalised c.self.inside.low.pending.bits c.self.inside.low.gathered n register c.from.result _ c.args.self.now.number (sym (ap (λ (x : Encoding). x.number) c.self.view_is)) fits
          ∙ ap (λ k. (c.args.self.now.number + k) * 2 ^ n) skipped ∙ ap (λ k. (c.args.self.now.number + c.args.skipped) * 2 ^ k) e;
      range_is = d.whole ∙ ap (λ k. c.args.range * 2 ^ k) e;
    }

pub returns-in-Ok-clause-open : goal.returns-in-Ok-clause-open
returns-in-Ok-clause-open g c =
    let range = ap (λ (e : Encoding). e.range) c.self.view_is in
    let d = range_doubled c.args.range c.args.count c.requires.count c.requires.some (omega (arith, c.requires.within, range, c.self.invariant.0)) in
    omega (arith, d.whole, d.low)
