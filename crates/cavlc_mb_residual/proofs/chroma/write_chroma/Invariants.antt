use Rattle.std.proofs.Common.{◌≡◌, ◌-◌, drop}
use Rattle.arrayvec.specs.ArrayVec.{array_vec_len}
use Rattle.bit_texts.specs.Texts.{Wrote, AreTurns, turns_text}
use Rattle.cavlc_mb_residual.specs.Counts.{AreSmall}
use Rattle.cavlc_mb_residual.specs.Residual.{counted, IsChromaBlock, chroma_block_text, chroma_text}
use Rattle.cavlc_mb_residual.proofs.chroma.write_chroma.Given as goal

abbrev pub invariant-loop-block : goal.invariant-loop-block
invariant-loop-block g l = record {
  taken : array_vec_len l.counts ≡ l.block-index;
  small : AreSmall l.counts.items;
  blocks : AreTurns (IsChromaBlock l.coded 20) counted (4 - l.block-index) l.counts.items (drop l.block-index l.blocks);
  wrote : Wrote (g.B.BitSink.bits l.initial.bits) (g.B.BitSink.bits l.bits) (chroma_text l.sides l.coded l.blocks) (turns_text (chroma_block_text l.sides l.coded) counted l.counts.items (drop l.block-index l.blocks));
}
