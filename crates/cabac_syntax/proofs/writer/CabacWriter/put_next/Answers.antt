-- Where no segment has started, one is, and the macroblock is written into it.
use Rattle.std.proofs.Common.{subst, sym}
use Rattle.cabac_syntax.specs.SliceData.{first_states}
use Rattle.cabac_syntax.specs.Written.{WritesIn}
use Rattle.cabac_syntax.proofs.StandsLaws.{stands_at}
use Rattle.cabac_syntax.proofs.writer.CabacWriter.put_next.Goals as goal

pub put_behind-requires : goal.put_behind-requires
put_behind-requires g c =
    let r = c.requires.1 in
    let start = first_states r.0 r.1 in
    let st = subst (λ p. WritesIn g.B.BitSink.bits p start r.1 r.2 r.3) (sym c.replace-phase.ensures.value) r.4.place in
    (c.requires.0, (r.0, r.1, r.2, r.3, stands_at _ r.1 _ r.3 _ _ r.4 (c.in_ok-begun.ensures.wrote start r.1 r.2 r.3 st), r.5))

pub returns-in_default : goal.returns-in_default
returns-in_default g c = λ init shape before done s.
    let start = first_states init shape in
    let st = subst (λ p. WritesIn g.B.BitSink.bits p start shape before done) (sym c.replace-phase.ensures.value) s.place in
    c.put_behind.ensures init shape before done (stands_at _ shape _ done _ _ s (c.in_ok-begun.ensures.wrote start shape before done st))
