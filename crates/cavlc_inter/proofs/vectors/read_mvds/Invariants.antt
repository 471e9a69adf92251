use Rattle.std.proofs.Common.{◌≡◌, ◌++◌, length}
use Rattle.h264_types.specs.Partition.{part_of}
use Rattle.cavlc_inter.specs.InterPrediction.{has_mvd, no_vector, IsVector, vector_text}
use Rattle.cavlc_inter.proofs.Elements.{ReadsOn}
use Rattle.cavlc_inter.proofs.vectors.read_mvds.Given as goal

abbrev pub invariant-loop-n : goal.invariant-loop-n
invariant-loop-n g l = record {
  size : length l.vectors ≡ 16;
  read : ReadsOn 16 (part_of l.parts.kind l.parts.subs) (has_mvd l.parts l.list) no_vector IsVector vector_text (g.B.BitSource.left l.initial.bits) l.n l.vectors (g.B.BitSource.left l.bits);
  kept : g.B.BitSource.taken l.bits ++ g.B.BitSource.left l.bits ≡ g.B.BitSource.taken l.initial.bits ++ g.B.BitSource.left l.initial.bits;
}
