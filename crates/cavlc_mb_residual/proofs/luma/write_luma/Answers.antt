use Rattle.std.proofs.Common.{◌≡◌, [], ap, sym, get_or, ◌∙◌, arith}
use Rattle.arrayvec.specs.ArrayVec.{array_vec_len}
use Rattle.bit_texts.proofs.Turns.{Wrote-turn, Wrote-turn_stop, Wrote-turns_end}
use Rattle.bit_texts.proofs.Writing.{Appends-Err}
use Rattle.cavlc_mb_residual.specs.LumaBlocks.{sent_block}
use Rattle.cavlc_mb_residual.specs.Residual.{counted, IsLumaBlock, luma_block_text}
use Rattle.cavlc_mb_residual.specs.LumaBlocks.{luma_blocks}
use Rattle.cavlc_mb_residual.proofs.Firsts.{length-sixteen, get_or-sixteen}
use Rattle.cavlc_mb_residual.proofs.ResidualLaws.{block_next, blocks_next}
use Rattle.cavlc_mb_residual.proofs.Unsent.{luma_none_written}
use Rattle.cavlc_mb_residual.proofs.luma.write_luma.Goals as goal

pub returns-then-luma-eq0 : goal.returns-then-luma-eq0
returns-then-luma-eq0 g c = luma_none_written c.args.sides.now c.args.luma c.args.max (luma_blocks c.args.mb.now) _ c.if-luma-eq0.true

pub write_luma_block-requires-clause-block : goal.write_luma_block-requires-clause-block
write_luma_block-requires-clause-block g c =
    let known = c.loop-n.invariant in
    let here : sent_block c.args.mb.now (array_vec_len c.loop-n.counts) ≡ get_or (luma_blocks c.args.mb.now) c.loop-n._n [] = ap (sent_block c.args.mb.now) known.taken ∙ sym (get_or-sixteen (sent_block c.args.mb.now) c.loop-n._n [] c.loop-n-test.true) in
    block_next (IsLumaBlock c.args.luma c.args.max 20) (luma_blocks c.args.mb.now) 16 c.loop-n._n c.loop-n.counts.items _ (length-sixteen (sent_block c.args.mb.now)) c.loop-n-test.true here known.blocks

pub returns-in_err-write_luma_block : goal.returns-in_err-write_luma_block
returns-in_err-write_luma_block g c =
    let known = c.loop-n.invariant in
    let here : sent_block c.args.mb.now (array_vec_len c.loop-n.counts) ≡ get_or (luma_blocks c.args.mb.now) c.loop-n._n [] = ap (sent_block c.args.mb.now) known.taken ∙ sym (get_or-sixteen (sent_block c.args.mb.now) c.loop-n._n [] c.loop-n-test.true) in
    let size = length-sixteen (sent_block c.args.mb.now) in
    Appends-Err _ _ _ _ _ c.from_residual.ensures.0
    (Wrote-turn_stop (luma_block_text c.args.sides.now c.args.luma c.args.max) counted c.loop-n.counts.items (luma_blocks c.args.mb.now) c.loop-n._n [] _ _ _ _ _ _ (omega (arith, size, c.loop-n-test.true)) here known.wrote c.in_err-write_luma_block.ensures.text.1)

pub loop-n-preserved : goal.loop-n-preserved
loop-n-preserved g c =
    let known = c.loop-n.invariant in
    let step = c.in_ok-write_luma_block.ensures in
    let here : sent_block c.args.mb.now (array_vec_len c.loop-n.counts) ≡ get_or (luma_blocks c.args.mb.now) c.loop-n._n [] = ap (sent_block c.args.mb.now) known.taken ∙ sym (get_or-sixteen (sent_block c.args.mb.now) c.loop-n._n [] c.loop-n-test.true) in
    let size = length-sixteen (sent_block c.args.mb.now) in
    record {
      taken = omega (arith, step.len, known.taken);
      small = step.small;
      blocks = blocks_next (IsLumaBlock c.args.luma c.args.max 20) (luma_blocks c.args.mb.now) 16 c.loop-n._n c.loop-n.counts.items _ _ size c.loop-n-test.true here step.counts known.blocks;
      wrote = Wrote-turn (luma_block_text c.args.sides.now c.args.luma c.args.max) counted c.loop-n.counts.items _ (luma_blocks c.args.mb.now) c.loop-n._n [] _ _ _ _ _ (omega (arith, size, c.loop-n-test.true)) here step.counts known.wrote step.text;
    }

pub returns : goal.returns
returns g c =
    Wrote-turns_end (luma_block_text c.args.sides.now c.args.luma c.args.max) counted c.loop-n.counts.items (luma_blocks c.args.mb.now) c.loop-n._n _ _ _ (omega (arith, length-sixteen (sent_block c.args.mb.now))) c.loop-n.invariant.wrote
