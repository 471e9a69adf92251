use Rattle.std.proofs.Common.{below_more}
use Rattle.h264_types.proofs.validity.are_pairs.Goals as goal

pub loop-pair-preserved : goal.loop-pair-preserved
loop-pair-preserved c = below_more _ _ c.loop-pair.invariant (c.is_pair.ensures.0 c.if-not-is_pair.false)
