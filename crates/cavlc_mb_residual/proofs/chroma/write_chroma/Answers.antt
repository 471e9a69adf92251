use Rattle.std.proofs.Common.{[], get_or, refl, arith}
use Rattle.bit_texts.proofs.Turns.{Wrote-turn, Wrote-turn_stop, Wrote-turns_end}
use Rattle.bit_texts.proofs.Writing.{Appends-Err}
use Rattle.cavlc_mb_residual.specs.Residual.{counted, IsChromaBlock, chroma_block_text}
use Rattle.cavlc_mb_residual.proofs.ResidualLaws.{block_next, blocks_next}
use Rattle.cavlc_mb_residual.proofs.Unsent.{chroma_none_written}
use Rattle.cavlc_mb_residual.proofs.chroma.write_chroma.Goals as goal

pub returns-then-not-coded : goal.returns-then-not-coded
returns-then-not-coded g c = chroma_none_written c.args.sides.now c.args.coded c.args.blocks.now _ c.if-not-coded.true

pub write_chroma_block-requires-clause-block : goal.write_chroma_block-requires-clause-block
write_chroma_block-requires-clause-block g c =
    block_next (IsChromaBlock c.args.coded 20) c.args.blocks.now 4 c.loop-block.block-index c.loop-block.counts.items _ c.told-blocks (omega (arith, c.loop-block-test.true, c.told-blocks)) refl c.loop-block.invariant.blocks

pub returns-in_err-write_chroma_block : goal.returns-in_err-write_chroma_block
returns-in_err-write_chroma_block g c =
    Appends-Err _ _ _ _ _ c.from_residual.ensures.0
    (Wrote-turn_stop (chroma_block_text c.args.sides.now c.args.coded) counted c.loop-block.counts.items c.args.blocks.now c.loop-block.block-index [] (get_or c.args.blocks.now c.loop-block.block-index []) _ _ _ _ _ (omega (arith, c.loop-block-test.true, c.told-blocks)) refl c.loop-block.invariant.wrote c.in_err-write_chroma_block.ensures.text.1)

pub loop-block-preserved : goal.loop-block-preserved
loop-block-preserved g c =
    let known = c.loop-block.invariant in
    let step = c.in_ok-write_chroma_block.ensures in
    record {
      taken = omega (arith, step.len, known.taken);
      small = step.small;
      blocks = blocks_next (IsChromaBlock c.args.coded 20) c.args.blocks.now 4 c.loop-block.block-index c.loop-block.counts.items _ _ c.told-blocks (omega (arith, c.loop-block-test.true, c.told-blocks)) refl step.counts known.blocks;
      wrote = Wrote-turn (chroma_block_text c.args.sides.now c.args.coded) counted c.loop-block.counts.items _ c.args.blocks.now c.loop-block.block-index [] (get_or c.args.blocks.now c.loop-block.block-index []) _ _ _ _ (omega (arith, c.loop-block-test.true, c.told-blocks)) refl step.counts known.wrote step.text;
    }

pub returns : goal.returns
returns g c =
    Wrote-turns_end (chroma_block_text c.args.sides.now c.args.coded) counted c.loop-block.counts.items c.args.blocks.now c.loop-block.block-index _ _ _ (omega (arith, c.loop-block-test.false)) c.loop-block.invariant.wrote
