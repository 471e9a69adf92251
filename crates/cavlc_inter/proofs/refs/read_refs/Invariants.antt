use Rattle.std.proofs.Common.{◌≡◌, ◌≤◌, ◌++◌, length}
use Rattle.exp_golomb.specs.Code.{te}
use Rattle.h264_types.specs.Partition.{partition_of}
use Rattle.cavlc_inter.specs.InterPrediction.{has_ref}
use Rattle.cavlc_inter.proofs.Elements.{ReadsOn}
use Rattle.cavlc_inter.proofs.refs.read_refs.Given as goal

abbrev pub invariant-loop-q : goal.invariant-loop-q
invariant-loop-q g l = record {
  size : length l.refs ≡ 4;
  read : ReadsOn 4 (partition_of l.parts.kind) (has_ref l.parts l.list l.greatest) 0 (λ i. i ≤ l.greatest) (te l.greatest) (g.B.BitSource.left l.initial.bits) l.q l.refs (g.B.BitSource.left l.bits);
  kept : g.B.BitSource.taken l.bits ++ g.B.BitSource.left l.bits ≡ g.B.BitSource.taken l.initial.bits ++ g.B.BitSource.left l.initial.bits;
}
