-- what is read from here is what was read from the start, and the bits to the boundary grow fewer
use Rattle.std.proofs.Common.{◌≡◌, ◌-◌, ◌%◌, length}
use Rattle.pcm_samples.specs.Alignment.{alignment_at}
use Rattle.bit_texts.specs.Cursor.{cursor}
use Rattle.pcm_samples.proofs.alignment.read_alignment.Given as goal

abbrev pub invariant-loop-bits : goal.invariant-loop-bits
invariant-loop-bits g l =
    alignment_at (cursor (length (g.B.BitSource.taken l.bits)) (g.B.BitSource.left l.bits)) ≡ alignment_at (cursor (length (g.B.BitSource.taken l.fn.bits)) (g.B.BitSource.left l.fn.bits))

abbrev pub decreases-loop-bits : goal.decreases-loop-bits
decreases-loop-bits g l = (8 - length (g.B.BitSource.taken l.bits) % 8) % 8
