use Rattle.std.proofs.Common.{◌≡◌, ◌*◌, ◌≤◌, ap, arith}
use Rattle.std.specs.Int.{from_bool}
use Rattle.cabac_engine.specs.Encoding.{Encoding}
use Rattle.cabac_engine.proofs.Registers.{room_doubled, number_of-doubled}
use Rattle.cabac_engine.proofs.Encoded.{encoded_bypass}
use Rattle.cabac_engine.proofs.encoder.Encoder.bypass.Goals as goal
use Rattle.cabac_engine.proofs.encoder.Encoder.bypass.Goals.{then-bit, else-bit}

pub keep-requires-clause-room : goal.keep-requires-clause-room
keep-requires-clause-room g c =
    let running : 256 ≤ c.self.inside.range = omega (arith, c.requires, ap (λ (e : Encoding). e.range) c.self.view_is) in
    let part : c.if-bit.upper ≤ c.self.inside.range = elim c.if-bit.branch [ then-bit w ↦ omega (arith, w.upper-is) | else-bit w ↦ omega (arith, w.upper-is) ] in
    room_doubled _ c.self.inside.low.gathered 1 c.self.inside.low.register c.self.inside.range _ 1 (c.self.invariant.1 (omega (arith, running)))
    (omega (arith, part, running, c.from.ensures))

pub invariant_of-self : goal.invariant_of-self
invariant_of-self g c =
    let part : c.if-bit.upper ≤ c.self.inside.range = elim c.if-bit.branch [ then-bit w ↦ omega (arith, w.upper-is) | else-bit w ↦ omega (arith, w.upper-is) ] in (
      c.self.invariant.0,
      λ some. c.in-Ok.ensures.room c.self.inside.range (omega (arith, c.self.invariant.0))
          (room_doubled _ c.self.inside.low.gathered 1 c.self.inside.low.register c.self.inside.range _ c.self.inside.range (c.self.invariant.1 some)
          (omega (arith, part, c.from.ensures))),
    )

pub returns-in-Ok-clause-bin : goal.returns-in-Ok-clause-bin
returns-in-Ok-clause-bin g c =
    let r = c.self.inside.range in
    let upper : c.from.result ≡ from_bool c.args.bit * r =
    elim c.if-bit.branch [
      | then-bit w ↦ omega (arith, c.from.ensures, w.upper-is, ap (λ b. from_bool b * r) w.if-bit.true)
      | else-bit w ↦ omega (arith, c.from.ensures, w.upper-is, ap (λ b. from_bool b * r) w.if-bit.false)
    ] in
    let range = ap (λ (e : Encoding). e.range) c.self.view_is in
    encoded_bypass c.args.bit c.args.self.now _ c.requires range
    (omega (arith, c.in-Ok.ensures.size, ap (λ (e : Encoding). e.size) c.self.view_is))
    (omega (
      arith,
      c.in-Ok.ensures.number,
      ap (λ (e : Encoding). e.number) c.self.view_is,
      upper,
      ap (λ k. from_bool c.args.bit * k) range,
      number_of-doubled c.self.inside.low.pending.bits c.self.inside.low.gathered 1 c.self.inside.low.register c.from.result,
    ))
