use Rattle.std.proofs.Common.{[], sym, ap, subst, ◌∙◌, below_more, arith}
use Rattle.cavlc_mb_residual.specs.LumaBlocks.{sent_block}
use Rattle.cavlc_residual.specs.Block.{is_beyond}
use Rattle.cavlc_mb_residual.specs.LumaBlocks.{luma_blocks}
use Rattle.cavlc_mb_residual.specs.MacroblockResidual.{AreSmallLevels}
use Rattle.cavlc_mb_residual.proofs.Firsts.{length-sixteen, get_or-sixteen}
use Rattle.cavlc_mb_residual.proofs.BeyondLaws.{any_none, any_some, all_get}
use Rattle.cavlc_mb_residual.proofs.beyond.is_luma_beyond.Goals as goal

pub is_block_beyond-requires-clause-small : goal.is_block_beyond-requires-clause-small
is_block_beyond-requires-clause-small c =
    let here = get_or-sixteen (sent_block c.args.mb.now) c.loop-n.n [] c.loop-n-test.true in
    subst AreSmallLevels here (all_get AreSmallLevels (luma_blocks c.args.mb.now) c.loop-n.n c.requires.small (omega (arith, length-sixteen (sent_block c.args.mb.now), c.loop-n-test.true)))

pub returns-then-is_block_beyond : goal.returns-then-is_block_beyond
returns-then-is_block_beyond c =
    let here = get_or-sixteen (sent_block c.args.mb.now) c.loop-n.n [] c.loop-n-test.true in
    sym (any_some (is_beyond c.args.bound) (luma_blocks c.args.mb.now) c.loop-n.n (omega (arith, length-sixteen (sent_block c.args.mb.now), c.loop-n-test.true))
    (ap (is_beyond c.args.bound) here ∙ sym c.is_block_beyond.ensures ∙ c.if-is_block_beyond.true))

pub loop-n-preserved : goal.loop-n-preserved
loop-n-preserved c =
    let here = get_or-sixteen (sent_block c.args.mb.now) c.loop-n.n [] c.loop-n-test.true in
    below_more _ _ c.loop-n.invariant (ap (is_beyond c.args.bound) here ∙ sym c.is_block_beyond.ensures ∙ c.if-is_block_beyond.false)

pub returns : goal.returns
returns c = sym (any_none (is_beyond c.args.bound) (luma_blocks c.args.mb.now) (λ m below. c.loop-n.invariant m (omega (arith, below, length-sixteen (sent_block c.args.mb.now), c.loop-n-test.false))))
