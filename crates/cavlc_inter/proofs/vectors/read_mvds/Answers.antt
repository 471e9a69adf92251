use Rattle.std.proofs.Common.{ap, ◌∙◌, arith}
use Rattle.std.specs.Option.{option_map}
use Rattle.std.proofs.lemmas.List.{length-set}
use Rattle.bit_texts.proofs.Reading.{Reads-None}
use Rattle.h264_types.specs.Partition.{part_of}
use Rattle.cavlc_inter.specs.InterPrediction.{has_mvd, no_vector, IsVector, vector_text}
use Rattle.cavlc_inter.proofs.Elements.{reads_more, reads_stop, reads_end}
use Rattle.cavlc_inter.proofs.Codes.{IsPrefixFree-vector}
use Rattle.cavlc_inter.proofs.vectors.read_mvds.Goals as goal

pub returns-in_err-vectors-clause-reads : goal.returns-in_err-vectors-clause-reads
returns-in_err-vectors-clause-reads g c =
    Reads-None _ _ _ _ _ (ap (option_map _) c.from_residual.ensures)
    (reads_stop 16 (part_of c.args.parts.now.kind c.args.parts.now.subs) (has_mvd c.args.parts.now c.args.list) no_vector IsVector vector_text
    _ (g.B.BitSource.left c.loop-n.bits) (g.B.BitSource.left c.read_mvd.new.bits) c.loop-n.n c.loop-n.vectors c.loop-n-test.true c.loop-n.invariant.read c.in_err-vectors.ensures.reads)

pub loop-n-preserved : goal.loop-n-preserved
loop-n-preserved g c =
    let known = c.loop-n.invariant in
    let step = c.in_ok-vectors.ensures in
    record {
      size = length-set c.loop-n.vectors c.loop-n.n c.in_ok-vectors.field-0 ∙ known.size;
      read =
          reads_more 16 (part_of c.args.parts.now.kind c.args.parts.now.subs) (has_mvd c.args.parts.now c.args.list) no_vector IsVector vector_text (IsPrefixFree-vector)
          _ (g.B.BitSource.left c.loop-n.bits) (g.B.BitSource.left c.read_mvd.new.bits) c.loop-n.n c.loop-n.vectors c.in_ok-vectors.field-0 c.loop-n-test.true (omega arith) known.read step.reads;
      kept = step.kept ∙ known.kept;
    }

pub returns-clause-reads : goal.returns-clause-reads
returns-clause-reads g c =
    reads_end 16 (part_of c.args.parts.now.kind c.args.parts.now.subs) (has_mvd c.args.parts.now c.args.list) no_vector IsVector vector_text
    _ (g.B.BitSource.left c.loop-n.bits) c.loop-n.n c.loop-n.vectors c.loop-n-test.false c.loop-n.invariant.size c.loop-n.invariant.read
