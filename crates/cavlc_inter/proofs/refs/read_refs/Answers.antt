use Rattle.std.proofs.Common.{◌≤◌, ap, ◌∙◌, arith}
use Rattle.std.specs.Option.{option_map}
use Rattle.std.proofs.lemmas.List.{length-set}
use Rattle.exp_golomb.specs.Code.{te}
use Rattle.bit_texts.proofs.Reading.{Reads-None}
use Rattle.h264_types.specs.Partition.{partition_of}
use Rattle.cavlc_inter.specs.InterPrediction.{has_ref}
use Rattle.cavlc_inter.proofs.Elements.{reads_more, reads_stop, reads_end}
use Rattle.cavlc_inter.proofs.Codes.{IsPrefixFree-te}
use Rattle.cavlc_inter.proofs.refs.read_refs.Goals as goal

pub returns-in_err-refs-clause-reads : goal.returns-in_err-refs-clause-reads
returns-in_err-refs-clause-reads g c =
    Reads-None _ _ _ _ _ (ap (option_map _) c.from_residual.ensures)
    (reads_stop 4 (partition_of c.args.parts.now.kind) (has_ref c.args.parts.now c.args.list c.args.greatest) 0 (λ i. i ≤ c.args.greatest) (te c.args.greatest)
    _ (g.B.BitSource.left c.loop-q.bits) (g.B.BitSource.left c.read_ref.new.bits) c.loop-q.q c.loop-q.refs c.loop-q-test.true c.loop-q.invariant.read c.in_err-refs.ensures.reads)

pub loop-q-preserved : goal.loop-q-preserved
loop-q-preserved g c =
    let known = c.loop-q.invariant in
    let step = c.in_ok-refs.ensures in
    record {
      size = length-set c.loop-q.refs c.loop-q.q c.in_ok-refs.field-0 ∙ known.size;
      read =
          reads_more 4 (partition_of c.args.parts.now.kind) (has_ref c.args.parts.now c.args.list c.args.greatest) 0 (λ i. i ≤ c.args.greatest) (te c.args.greatest) (IsPrefixFree-te c.args.greatest (omega arith))
          _ (g.B.BitSource.left c.loop-q.bits) (g.B.BitSource.left c.read_ref.new.bits) c.loop-q.q c.loop-q.refs c.in_ok-refs.field-0 c.loop-q-test.true (omega arith) known.read step.reads;
      kept = step.kept ∙ known.kept;
    }

pub returns-clause-reads : goal.returns-clause-reads
returns-clause-reads g c =
    reads_end 4 (partition_of c.args.parts.now.kind) (has_ref c.args.parts.now c.args.list c.args.greatest) 0 (λ i. i ≤ c.args.greatest) (te c.args.greatest)
    _ (g.B.BitSource.left c.loop-q.bits) c.loop-q.q c.loop-q.refs c.loop-q-test.false c.loop-q.invariant.size c.loop-q.invariant.read
