use Rattle.std.proofs.Common.{◌≤◌, get_or, ap, arith}
use Rattle.exp_golomb.specs.Code.{te}
use Rattle.bit_texts.proofs.Writing.{Appends-Err}
use Rattle.h264_types.specs.Partition.{partition_of}
use Rattle.cavlc_inter.specs.InterPrediction.{has_ref}
use Rattle.cavlc_inter.proofs.Elements.{element_is, wrote_more, wrote_stop, wrote_end}
use Rattle.cavlc_inter.proofs.refs.write_refs.Goals as goal

pub write_ref-requires-clause-index : goal.write_ref-requires-clause-index
write_ref-requires-clause-index g c =
    element_is 4 (partition_of c.args.parts.now.kind) (has_ref c.args.parts.now c.args.list c.args.greatest) 0 (λ i. i ≤ c.args.greatest) c.args.refs.now c.requires c.loop-q.q 0 _ (ap (λ k. get_or c.args.refs.now k 0) c.from.ensures) c.loop-q-test.true

pub returns-in_err-write_ref : goal.returns-in_err-write_ref
returns-in_err-write_ref g c =
    Appends-Err _ _ _ _ _ c.from_residual.ensures.0
    (wrote_stop (partition_of c.args.parts.now.kind) (has_ref c.args.parts.now c.args.list c.args.greatest) (te c.args.greatest) _ _ _ _ c.loop-q.q c.args.refs.now 0 _ (ap (λ k. get_or c.args.refs.now k 0) c.from.ensures) (omega arith) c.loop-q.invariant c.in_err-write_ref.ensures.1)

pub loop-q-preserved : goal.loop-q-preserved
loop-q-preserved g c =
    wrote_more (partition_of c.args.parts.now.kind) (has_ref c.args.parts.now c.args.list c.args.greatest) (te c.args.greatest) _ _ _ c.loop-q.q c.args.refs.now 0 _ (ap (λ k. get_or c.args.refs.now k 0) c.from.ensures) (omega arith) c.loop-q.invariant c.in_ok-write_ref.ensures

pub returns : goal.returns
returns g c =
    wrote_end (partition_of c.args.parts.now.kind) (has_ref c.args.parts.now c.args.list c.args.greatest) (te c.args.greatest) _ _ c.loop-q.q c.args.refs.now (omega arith) c.loop-q.invariant
