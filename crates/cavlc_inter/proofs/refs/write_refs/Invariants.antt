use Rattle.exp_golomb.specs.Code.{te}
use Rattle.h264_types.specs.Partition.{partition_of}
use Rattle.cavlc_inter.specs.InterPrediction.{has_ref}
use Rattle.cavlc_inter.proofs.Elements.{WroteTo}
use Rattle.cavlc_inter.proofs.refs.write_refs.Given as goal

abbrev pub invariant-loop-q : goal.invariant-loop-q
invariant-loop-q g l = WroteTo (partition_of l.parts.kind) (has_ref l.parts l.list l.greatest) (te l.greatest) (g.B.BitSink.bits l.initial.bits) (g.B.BitSink.bits l.bits) l.q l.refs
