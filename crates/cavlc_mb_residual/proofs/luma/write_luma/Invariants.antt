use Rattle.std.proofs.Common.{◌≡◌, ◌-◌, drop}
use Rattle.arrayvec.specs.ArrayVec.{array_vec_len}
use Rattle.bit_texts.specs.Texts.{Wrote, AreTurns, turns_text}
use Rattle.cavlc_mb_residual.specs.Counts.{AreSmall}
use Rattle.cavlc_mb_residual.specs.Residual.{counted, IsLumaBlock, luma_block_text, luma_text}
use Rattle.cavlc_mb_residual.specs.LumaBlocks.{luma_blocks}
use Rattle.cavlc_mb_residual.proofs.luma.write_luma.Given as goal

abbrev pub invariant-loop-n : goal.invariant-loop-n
invariant-loop-n g l = record {
  taken : array_vec_len l.counts ≡ l._n;
  small : AreSmall l.counts.items;
  blocks : AreTurns (IsLumaBlock l.luma l.max 20) counted (16 - l._n) l.counts.items (drop l._n (luma_blocks l.mb));
  wrote : Wrote (g.B.BitSink.bits l.initial.bits) (g.B.BitSink.bits l.bits) (luma_text l.sides l.luma l.max (luma_blocks l.mb)) (turns_text (luma_block_text l.sides l.luma l.max) counted l.counts.items (drop l._n (luma_blocks l.mb)));
}
