use Rattle.std.proofs.Common.{◌-◌, ◌%◌, length, replicate, false}
use Rattle.bit_texts.specs.Texts.{Wrote}
use Rattle.param_sets.specs.TrailingBits.{trailing_bits}
use Rattle.param_sets.proofs.write_values.write_trailing_bits.Given as goal

abbrev pub invariant-loop-out : goal.invariant-loop-out
invariant-loop-out g l =
    let put = g.B.BitSink.bits in
    Wrote (put l.fn.out) (put l.out) (trailing_bits (length (put l.fn.out))) (replicate ((8 - length (put l.out) % 8) % 8) false)

abbrev pub decreases-loop-out : goal.decreases-loop-out
decreases-loop-out g l = let put = g.B.BitSink.bits in (8 - length (put l.out) % 8) % 8
