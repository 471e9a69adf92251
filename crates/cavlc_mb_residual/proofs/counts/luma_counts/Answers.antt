use Rattle.std.proofs.Common.{refl}
use Rattle.cavlc_mb_residual.specs.LumaBlocks.{sixteen}
use Rattle.cavlc_mb_residual.proofs.Firsts.{AreSmall-quarters}
use Rattle.cavlc_mb_residual.proofs.counts.luma_counts.Goals as goal

pub returns-clause-value : goal.returns-clause-value
unfolding sixteen
returns-clause-value c = rw (c.quarter_counts.ensures.value, c.quarter_counts-2.ensures.value, c.quarter_counts-3.ensures.value, c.quarter_counts-4.ensures.value) refl

pub returns-clause-small : goal.returns-clause-small
returns-clause-small c =
    AreSmall-quarters c.quarter_counts.result c.quarter_counts-2.result c.quarter_counts-3.result c.quarter_counts-4.result c.quarter_counts.ensures.small c.quarter_counts-2.ensures.small c.quarter_counts-3.ensures.small c.quarter_counts-4.ensures.small
