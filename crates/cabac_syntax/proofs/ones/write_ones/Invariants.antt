-- the one bits that are still to be put
use Rattle.std.proofs.Common.{◌-◌, ◌%◌, length}
use Rattle.bit_texts.specs.Texts.{Wrote}
use Rattle.cabac_syntax.specs.SliceData.{ones}
use Rattle.cabac_syntax.proofs.ones.write_ones.Given as goal

abbrev pub invariant-loop-bits : goal.invariant-loop-bits
invariant-loop-bits g l =
    let bits = g.B.BitSink.bits in
    Wrote (bits l.fn.bits) (bits l.bits) (ones (length (bits l.fn.bits))) (ones (length (bits l.bits)))

abbrev pub decreases-loop-bits : goal.decreases-loop-bits
decreases-loop-bits g l = (8 - length (g.B.BitSink.bits l.bits) % 8) % 8
