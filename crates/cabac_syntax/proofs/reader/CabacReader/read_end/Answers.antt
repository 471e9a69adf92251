-- The end of the slice stands here, or no list has the bits.
use Rattle.std.proofs.Common.{subst, length, sym}
use Rattle.std.proofs.lemmas.Bool.{ltb-true}
use Rattle.bit_texts.specs.Bits.{EndsInOne}
use Rattle.cabac_syntax.specs.SliceData.{first_states}
use Rattle.cabac_syntax.specs.Standing.{IsTail}
use Rattle.cabac_syntax.proofs.EndLaws.{know_end, no_end}
use Rattle.cabac_syntax.proofs.reader.CabacReader.read_end.Goals as goal

pub returns-then-whole : goal.returns-then-whole
returns-then-whole g c = λ init shape pos all done mb has k.
    let d = c.args.coder.decoder in
    let there = c.if-whole.ensures in
    let left = c.into_parts-bits.ensures.left in
    let taken = c.into_parts-bits.ensures.taken in (
      has,
      know_end (first_states init shape) shape pos all done c.args.coder k (ltb-true _ _ c.requires) (subst EndsInOne taken there.0)
          (subst (λ t. IsTail (length t) d.left) taken (subst (IsTail (length (g.B.BitSource.taken c.into_parts-bits.result.1))) left there.1)),
      there.2,
    )

pub returns-else-whole : goal.returns-else-whole
returns-else-whole g c = λ init shape pos all done mb has k.
    let d = c.args.coder.decoder in
    let left = c.into_parts-bits.ensures.left in
    let taken = c.into_parts-bits.ensures.taken in
    no_end (first_states init shape) shape pos all done c.args.coder k (ltb-true _ _ c.requires)
    (λ one tail. c.if-whole.ensures (subst EndsInOne (sym taken) one)
    (subst (IsTail (length (g.B.BitSource.taken c.into_parts-bits.result.1))) (sym left) (subst (λ t. IsTail (length t) d.left) (sym taken) tail)))
