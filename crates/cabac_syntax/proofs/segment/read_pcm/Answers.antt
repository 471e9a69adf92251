use Rattle.std.proofs.Common.{length}
use Rattle.cabac_syntax.proofs.Samples.{samples_cut, samples_read, samples_aligned}
use Rattle.cabac_syntax.proofs.segment.read_pcm.Goals as goal

pub returns-in_err-read_alignment-clause-samples : goal.returns-in_err-read_alignment-clause-samples
returns-in_err-read_alignment-clause-samples g c =
    rw c.from_residual.ensures (samples_cut (length (g.B.BitSource.taken c.args.bits.now)) (g.B.BitSource.left c.args.bits.now) c.in_err-read_alignment.ensures)

pub returns-clause-samples : goal.returns-clause-samples
returns-clause-samples g c =
    samples_read (length (g.B.BitSource.taken c.args.bits.now)) (length (g.B.BitSource.taken c.read_alignment.new.bits)) (g.B.BitSource.left c.args.bits.now) (g.B.BitSource.left c.read_alignment.new.bits)
    (g.B.BitSource.left c.read_samples.new.bits) c.read_samples.new.samples c.read_samples.result c.in_ok-read_alignment.ensures c.read_samples.ensures.reads

pub returns-clause-aligned : goal.returns-clause-aligned
returns-clause-aligned g c =
    samples_aligned (length (g.B.BitSource.taken c.args.bits.now)) (g.B.BitSource.taken c.read_alignment.new.bits) (g.B.BitSource.left c.args.bits.now) (g.B.BitSource.left c.read_alignment.new.bits)
    (g.B.BitSource.taken c.read_samples.new.bits) (g.B.BitSource.left c.read_samples.new.bits) c.read_samples.new.samples c.read_samples.result c.in_ok-read_alignment.ensures c.read_samples.ensures.reads c.read_samples.ensures.kept
