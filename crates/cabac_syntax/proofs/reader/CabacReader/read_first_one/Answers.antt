-- The first macroblock is read, or no list has the bits.
use Rattle.std.proofs.Common.{refl, sym, subst, length}
use Rattle.cabac_syntax.specs.SliceData.{first_states}
use Rattle.cabac_syntax.specs.Standing.{StandsIn}
use Rattle.cabac_syntax.proofs.ReaderLaws.{none_fresh, first_here}
use Rattle.cabac_syntax.proofs.StandsLaws.{stands_at}
use Rattle.cabac_syntax.proofs.reader.CabacReader.read_first_one.Goals as goal

pub returns-in_default-read_first : goal.returns-in_default-read_first
returns-in_default-read_first g c = λ init shape pos all done s.
    let taken = g.B.BitSource.taken in
    let left = g.B.BitSource.left in
    let start = first_states init shape in
    let st = subst (λ p. StandsIn taken left p start shape pos all done) (sym c.in-Fresh.ensures.value) s.place in
    none_fresh start shape pos (length (taken c.in-Fresh.bits)) all (left c.in-Fresh.bits) st.2 st.3 (c.in_default-read_first.ensures.knows start shape st.1)

pub returns : goal.returns
returns g c = λ init shape pos all done s.
    let taken = g.B.BitSource.taken in
    let left = g.B.BitSource.left in
    let start = first_states init shape in
    let st = subst (λ p. StandsIn taken left p start shape pos all done) (sym c.in-Fresh.ensures.value) s.place in
    c.read_next.ensures c.in-Some.coder init shape pos all done refl
    (stands_at _ shape _ done _ _ s (first_here start shape pos (length (taken c.in-Fresh.bits)) all (left c.in-Fresh.bits) done c.in-Some.coder st.0 st.2 st.3 (c.in-Some.ensures.knows start shape st.1)))
