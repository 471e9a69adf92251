-- the alignment that is still to be put
use Rattle.std.proofs.Common.{◌-◌, ◌%◌, length}
use Rattle.bit_texts.specs.Texts.{Wrote}
use Rattle.pcm_samples.specs.Alignment.{alignment}
use Rattle.pcm_samples.proofs.alignment.write_alignment.Given as goal

abbrev pub invariant-loop-bits : goal.invariant-loop-bits
invariant-loop-bits g l =
    let bits = g.B.BitSink.bits in
    Wrote (bits l.fn.bits) (bits l.bits) (alignment (length (bits l.fn.bits))) (alignment (length (bits l.bits)))

abbrev pub decreases-loop-bits : goal.decreases-loop-bits
decreases-loop-bits g l = (8 - length (g.B.BitSink.bits l.bits) % 8) % 8
