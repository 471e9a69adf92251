use Rattle.std.proofs.Common.{below_more, refl, arith}
use Rattle.h264_types.proofs.validity.are_quarters_coded.Goals as goal

pub loop-q-preserved : goal.loop-q-preserved
loop-q-preserved c =
    below_more _ _ c.loop-q.invariant (c.is_quarter_coded.ensures.0 c.if-not-is_quarter_coded.false)

pub returns : goal.returns
returns c = ((λ _ q below. c.loop-q.invariant q (omega arith)), (λ _. refl))
