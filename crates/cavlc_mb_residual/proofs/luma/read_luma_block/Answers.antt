use Rattle.std.proofs.Common.{◌∙◌, ap, sym, arith}
use Rattle.h264_types.specs.Macroblock.{luma_block}
use Rattle.cavlc_mb_residual.proofs.Firsts.{AreSmall-push}
use Rattle.cavlc_mb_residual.proofs.Unsent.{unsent, luma_block_read, counted-none}
use Rattle.cavlc_mb_residual.proofs.luma.read_luma_block.Goals as goal

pub returns-clause-small : goal.returns-clause-small
returns-clause-small g c =
    AreSmall-push c.args.counts.now.items _ _ c.push-2.ensures.items c.requires.small c.in_ok-total.ensures.most

pub returns-then-not-coded-clause-reads : goal.returns-then-not-coded-clause-reads
returns-then-not-coded-clause-reads g c =
    luma_block_read c.args.sides.now c.args.luma c.args.max c.args.bound c.args.counts.now.items _ _ c.requires.max
    (unsent c.args.luma c.len-n.result c.args.counts.now.items _ c.len-n.ensures.value c.is_block_coded-coded.ensures c.if-not-coded.true)
    (ap (luma_block c.set_block.new.self) (sym c.len-n.ensures.value) ∙ c.set_block.ensures.block)

pub returns-then-not-coded-clause-counts : goal.returns-then-not-coded-clause-counts
returns-then-not-coded-clause-counts g c =
    counted-none c.args.counts.now.items _ _ (ap (luma_block c.set_block.new.self) (sym c.len-n.ensures.value) ∙ c.set_block.ensures.block) c.push.ensures.items

pub returns-then-not-coded-clause-small : goal.returns-then-not-coded-clause-small
returns-then-not-coded-clause-small g c = AreSmall-push c.args.counts.now.items _ 0 c.push.ensures.items c.requires.small (omega arith)
