use Rattle.std.proofs.Common.{◌≡◌, ◌++◌, ◌-◌, [], length, take}
use Rattle.arrayvec.specs.ArrayVec.{array_vec_len}
use Rattle.bit_texts.specs.Texts.{Completes}
use Rattle.cavlc_mb_residual.specs.Counts.{AreSmall}
use Rattle.cavlc_mb_residual.specs.Residual.{counted, IsChromaBlock, chroma_block_text}
use Rattle.cavlc_mb_residual.proofs.chroma.read_chroma.Given as goal

abbrev pub invariant-loop-n : goal.invariant-loop-n
invariant-loop-n g l = record {
  taken : array_vec_len l.counts ≡ l._n;
  small : AreSmall l.counts.items;
  size : length l.blocks ≡ 4;
  completes : Completes (IsChromaBlock l.coded l.bound) (chroma_block_text l.sides l.coded) counted 4 [] (g.B.BitSource.left l.initial.bits) (4 - l._n) l.counts.items (g.B.BitSource.left l.bits) (take l._n l.blocks);
  kept : g.B.BitSource.taken l.bits ++ g.B.BitSource.left l.bits ≡ g.B.BitSource.taken l.initial.bits ++ g.B.BitSource.left l.initial.bits;
}
