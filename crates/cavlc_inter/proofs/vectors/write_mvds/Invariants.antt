use Rattle.h264_types.specs.Partition.{part_of}
use Rattle.cavlc_inter.specs.InterPrediction.{has_mvd, vector_text}
use Rattle.cavlc_inter.proofs.Elements.{WroteTo}
use Rattle.cavlc_inter.proofs.vectors.write_mvds.Given as goal

abbrev pub invariant-loop-n : goal.invariant-loop-n
invariant-loop-n g l = WroteTo (part_of l.parts.kind l.parts.subs) (has_mvd l.parts l.list) vector_text (g.B.BitSink.bits l.initial.bits) (g.B.BitSink.bits l.bits) l.n l.vectors
