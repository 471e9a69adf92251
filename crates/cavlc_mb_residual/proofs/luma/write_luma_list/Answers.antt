use Rattle.std.proofs.Common.{arith}
use Rattle.cavlc_mb_residual.proofs.Firsts.{AreSmall-push}
use Rattle.cavlc_mb_residual.proofs.Unsent.{none_in_front, unsent, luma_block_written, counted-unsent}
use Rattle.cavlc_mb_residual.proofs.luma.write_luma_list.Goals as goal

pub returns-clause-small : goal.returns-clause-small
returns-clause-small g c =
    AreSmall-push c.args.counts.now.items _ _ c.push-2.ensures.items c.requires.small c.count_levels-total.ensures.most

pub returns-then-not-coded-clause-text : goal.returns-then-not-coded-clause-text
returns-then-not-coded-clause-text g c =
    luma_block_written c.args.sides.now c.args.luma c.args.max c.args.counts.now.items c.args.block.now _
    (unsent c.args.luma c.len-n.result c.args.counts.now.items _ c.len-n.ensures.value c.is_block_coded-coded.ensures c.if-not-coded.true)

pub returns-then-not-coded-clause-counts : goal.returns-then-not-coded-clause-counts
returns-then-not-coded-clause-counts g c =
    counted-unsent c.args.luma c.args.max 20 c.args.counts.now.items _ c.args.block.now c.requires.max
    (unsent c.args.luma c.len-n.result c.args.counts.now.items _ c.len-n.ensures.value c.is_block_coded-coded.ensures c.if-not-coded.true)
    c.requires.block c.push.ensures.items

pub returns-then-not-coded-clause-small : goal.returns-then-not-coded-clause-small
returns-then-not-coded-clause-small g c = AreSmall-push c.args.counts.now.items _ 0 c.push.ensures.items c.requires.small (omega arith)

pub write_counted-requires-clause-none : goal.write_counted-requires-clause-none
write_counted-requires-clause-none g c = λ none. none_in_front c.from.result c.args.block.now _ c.count_levels-total.ensures.value none
