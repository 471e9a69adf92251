use Rattle.std.proofs.Common.{◌-◌, ◌/◌, ◌^◌, ◌≤◌, take, drop, ◌++◌, ap, arith}
use Rattle.cabac_engine.specs.OffsetBits.{Offset}
use Rattle.cabac_engine.proofs.Offsets.{held_left, lowered, ready_of, holds_below, offset_below, shifted_fits, lowered_view}
use Rattle.cabac_engine.proofs.offset_bits.OffsetBits.lower.Goals as goal

pub invariant_of-self : goal.invariant_of-self
invariant_of-self g c =
    let n = c.self.inside.ready in
    let value = c.self.inside.value in
    let i = c.self.invariant in
    let left = drop (c.self.inside.ahead - n) (g.B.BitSource.left c.self.inside.source) in
    let h = held_left value n c.self.inside.ahead (g.B.BitSource.left c.self.inside.source) i.0 i.2 i.4 in
    let enough : c.args.by ≤ value / 2 ^ n = omega (arith, c.requires.enough, ap (λ (o : Offset). o.offset) c.self.view_is) in
    let l = lowered value n (value / 2 ^ n) c.args.by left h enough in
    rw (c.from.ensures, shifted_fits c.args.by n (omega (arith, c.requires.fits)) (omega (arith, i.0, i.1)))
    (i.0, i.1, i.2, holds_below _ n _ left 1024 l (omega (arith, offset_below value n 1024 i.3)), ready_of _ n _ left l)

pub returns : goal.returns
returns g c =
    let n = c.self.inside.ready in
    let value = c.self.inside.value in
    let i = c.self.invariant in
    let left = g.B.BitSource.left c.self.inside.source in
    let used = c.self.inside.ahead - n in
    let h = held_left value n c.self.inside.ahead left i.0 i.2 i.4 in
    rw (c.from.ensures, shifted_fits c.args.by n (omega (arith, c.requires.fits)) (omega (arith, i.0, i.1)))
    (lowered_view value n c.args.by (g.B.BitSource.taken c.self.inside.source ++ take used left) (drop used left) c.args.self.now c.self.view_is h c.requires.enough)
