use Rattle.cabac_engine.proofs.Offsets.{counted}
use Rattle.cabac_engine.proofs.offset_bits.OffsetBits.count_in.Goals as goal

pub invariant_of-self : goal.invariant_of-self
invariant_of-self g c =
    let f = c.self.inside in
    let i = c.self.invariant in
    let k = counted f.value f.ready f.ahead c.args.count _ (g.B.BitSource.left f.source) c.args.self.now c.self.view_is i.0 i.2 i.4 c.requires.enough c.requires.fits in
    (k.few, i.1, i.2, k.below, k.ready_is)

pub returns-clause-doubled : goal.returns-clause-doubled
returns-clause-doubled g c =
    let f = c.self.inside in
    let i = c.self.invariant in
    (counted f.value f.ready f.ahead c.args.count _ (g.B.BitSource.left f.source) c.args.self.now c.self.view_is i.0 i.2 i.4 c.requires.enough c.requires.fits).doubled
