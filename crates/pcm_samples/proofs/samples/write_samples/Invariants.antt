-- the samples that are still to be put
use Rattle.std.proofs.Common.{◌*◌, drop}
use Rattle.bit_texts.specs.Bits.{bits_of}
use Rattle.bit_texts.specs.Texts.{Wrote}
use Rattle.pcm_samples.proofs.samples.write_samples.Given as goal

abbrev pub invariant-loop-i : goal.invariant-loop-i
invariant-loop-i g l = Wrote (g.B.BitSink.bits l.fn.bits) (g.B.BitSink.bits l.bits) (bits_of l.samples) (bits_of (drop (8 * l.i) l.samples))
