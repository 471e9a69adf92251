use Rattle.std.proofs.Common.{take}
use Rattle.bit_texts.specs.Texts.{Appended}
use Rattle.param_sets.proofs.write_values.write_bits.Given as goal

abbrev pub invariant-loop-bit : goal.invariant-loop-bit
invariant-loop-bit g l = let put = g.B.BitSink.bits in Appended (put l.fn.out) (put l.out) (take l.bit-index l.bits)
