-- In each phase: a macroblock is read, the end is found, or the bits are refused.
use Rattle.std.proofs.Common.{refl, subst}
use Rattle.cabac_syntax.specs.SliceData.{first_states}
use Rattle.cabac_syntax.specs.Standing.{StandsIn}
use Rattle.cabac_syntax.proofs.KnowsLaws.{no_flag, know_next, know_last}
use Rattle.cabac_syntax.proofs.ReaderLaws.{same_coder}
use Rattle.cabac_syntax.proofs.StandsLaws.{stands_at}
use Rattle.cabac_syntax.proofs.reader.CabacReaderSliceReader.next_into.Goals as goal

pub returns-in-Running-replace : goal.returns-in-Running-replace
returns-in-Running-replace g c = λ init shape pos all done s.
    let start = first_states init shape in
    let st = subst (λ p. StandsIn g.B.BitSource.taken g.B.BitSource.left p start shape pos all done) c.in-Running.is s.place in
    let ended = same_coder c.replace.result c.end.new.self c.in-Running-replace.coder c.replace.ensures.value c.in-Running-replace.is in
    c.read_end.ensures init shape pos all done c.args.mb.now (s.given st.0)
    (rw ended at (know_last start shape pos all done c.in-Running.coder c.end.new.self st.0 st.1 (rw c.in-Some-true.field-0-test at c.in-Some-true.ensures.step)))

pub returns-in-Some-false : goal.returns-in-Some-false
returns-in-Some-false g c = λ init shape pos all done s.
    let start = first_states init shape in
    let st = subst (λ p. StandsIn g.B.BitSource.taken g.B.BitSource.left p start shape pos all done) c.in-Running.is s.place in
    c.read_next.ensures c.end.new.self init shape pos all done refl
    (stands_at _ shape _ done _ _ s (know_next start shape pos all done c.in-Running.coder c.end.new.self st.0 st.1 (rw c.in-Some-false.field-0-test at c.in-Some-false.ensures.step)))

pub returns-in-None : goal.returns-in-None
returns-in-None g c = λ init shape pos all done s.
    let start = first_states init shape in
    let st = subst (λ p. StandsIn g.B.BitSource.taken g.B.BitSource.left p start shape pos all done) c.in-Running.is s.place in
    no_flag start shape pos all done c.in-Running.coder c.end.new.self st.0 st.1 c.in-None.ensures.step
