use Rattle.std.proofs.Common.{[], get_or, ap, arith}
use Rattle.bit_texts.proofs.Writing.{Appends-Err}
use Rattle.h264_types.specs.Partition.{part_of}
use Rattle.cavlc_inter.specs.InterPrediction.{has_mvd, no_vector, IsVector, vector_text}
use Rattle.cavlc_inter.proofs.Elements.{element_is, wrote_more, wrote_stop, wrote_end}
use Rattle.cavlc_inter.proofs.vectors.write_mvds.Goals as goal

pub write_mvd-requires-clause-vector : goal.write_mvd-requires-clause-vector
write_mvd-requires-clause-vector g c =
    element_is 16 (part_of c.args.parts.now.kind c.args.parts.now.subs) (has_mvd c.args.parts.now c.args.list) no_vector IsVector c.args.vectors.now c.requires c.loop-n.n [] _ (ap (λ k. get_or c.args.vectors.now k []) c.from.ensures) c.loop-n-test.true

pub returns-in_err-write_mvd : goal.returns-in_err-write_mvd
returns-in_err-write_mvd g c =
    Appends-Err _ _ _ _ _ c.from_residual.ensures.0
    (wrote_stop (part_of c.args.parts.now.kind c.args.parts.now.subs) (has_mvd c.args.parts.now c.args.list) vector_text _ _ _ _ c.loop-n.n c.args.vectors.now [] _ (ap (λ k. get_or c.args.vectors.now k []) c.from.ensures) (omega arith) c.loop-n.invariant c.in_err-write_mvd.ensures.1)

pub loop-n-preserved : goal.loop-n-preserved
loop-n-preserved g c =
    wrote_more (part_of c.args.parts.now.kind c.args.parts.now.subs) (has_mvd c.args.parts.now c.args.list) vector_text _ _ _ c.loop-n.n c.args.vectors.now [] _ (ap (λ k. get_or c.args.vectors.now k []) c.from.ensures) (omega arith) c.loop-n.invariant c.in_ok-write_mvd.ensures

pub returns : goal.returns
returns g c =
    wrote_end (part_of c.args.parts.now.kind c.args.parts.now.subs) (has_mvd c.args.parts.now c.args.list) vector_text _ _ c.loop-n.n c.args.vectors.now (omega arith) c.loop-n.invariant
