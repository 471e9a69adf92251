use Rattle.annexb_units.proofs.Zeros.{zero_at_end, zero_alone, two_zeros}
use Rattle.annexb_units.proofs.escaping.is_emulating.Goals as goal

pub returns-then-payload-eq1 : goal.returns-then-payload-eq1
returns-then-payload-eq1 c = zero_at_end c.args.payload.now c.requires.zero c.if-payload-eq1.true

pub returns-then-payload-ne0 : goal.returns-then-payload-ne0
returns-then-payload-ne0 c = zero_alone c.args.payload.now c.requires.some c.requires.zero c.if-payload-eq1.false c.if-payload-ne0.true

pub returns : goal.returns
returns c = two_zeros c.args.payload.now c.is_low_at.result c.requires.some c.requires.zero c.if-payload-eq1.false c.if-payload-ne0.false c.is_low_at.ensures
