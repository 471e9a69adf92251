use Rattle.std.proofs.Common.{◌≡◌, ◌++◌, ◌-◌, []}
use Rattle.arrayvec.specs.ArrayVec.{array_vec_len}
use Rattle.bit_texts.specs.Texts.{Completes}
use Rattle.h264_types.specs.Macroblock.{luma_block}
use Rattle.cavlc_mb_residual.specs.Counts.{AreSmall}
use Rattle.cavlc_mb_residual.specs.Residual.{counted, IsLumaBlock, luma_block_text}
use Rattle.cavlc_mb_residual.proofs.Firsts.{firsts}
use Rattle.cavlc_mb_residual.proofs.luma.read_luma_lists.Given as goal

abbrev pub invariant-loop-n : goal.invariant-loop-n
invariant-loop-n g l = record {
  taken : array_vec_len l.counts ≡ l._n;
  small : AreSmall l.counts.items;
  completes : Completes (IsLumaBlock l.luma l.max l.bound) (luma_block_text l.sides l.luma l.max) counted 16 [] (g.B.BitSource.left l.initial.bits) (16 - l._n) l.counts.items (g.B.BitSource.left l.bits) (firsts (luma_block l.mb) l._n);
  rest : l.mb ≡ record l.initial.mb { luma = l.mb.luma };
  kept : g.B.BitSource.taken l.bits ++ g.B.BitSource.left l.bits ≡ g.B.BitSource.taken l.initial.bits ++ g.B.BitSource.left l.initial.bits;
}
