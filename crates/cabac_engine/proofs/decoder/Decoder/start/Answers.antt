use Rattle.std.proofs.Common.{[], arith, subst, sym}
use Rattle.exp_golomb.proofs.Fronts.{TakesNumber-from_Reads, short_from_Reads}
use Rattle.cabac_engine.specs.Decoding.{HasDecoded}
use Rattle.cabac_engine.specs.OffsetBits.{Offset}
use Rattle.cabac_engine.proofs.Decoded.{started}
use Rattle.cabac_engine.proofs.decoder.Decoder.start.Goals as goal
use Rattle.cabac_engine.proofs.decoder.Decoder.start.Goals.{in_default-via-in-Some+else-offset-lt510, in_default-via-in_default}

pub returns-in-Some-clause-answer : goal.returns-in-Some-clause-answer
returns-in-Some-clause-answer g c = (
  omega arith,
  subst (λ (o : Offset). HasDecoded (g.B.BitSource.left c.args.bits) [] 510 o.offset o.left) (sym c.new.ensures)
      (started _ c.in-Some.offset _ (TakesNumber-from_Reads 9 c.in-Some.offset _ _ c.in-Some.ensures.reads) c.if-offset-lt510.true),
)

pub returns-in_default-clause-answer : goal.returns-in_default-clause-answer
returns-in_default-clause-answer g c = λ many.
    elim c.in_default.branch [
      | in_default-via-in-Some+else-offset-lt510 w ↦
          let t = TakesNumber-from_Reads 9 w.in-Some.offset _ _ w.in-Some.ensures.reads in
          omega (arith, t.value_is, w.if-offset-lt510.false)
      | in_default-via-in_default w ↦
          let few = short_from_Reads 9 (g.B.BitSource.left c.args.bits) (g.B.BitSource.left c.read_u.new.b) w.in_default.ensures.reads in
          omega (arith, few, many)
    ]
