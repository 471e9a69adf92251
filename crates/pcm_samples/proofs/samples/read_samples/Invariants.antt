-- the samples so far
use Rattle.std.proofs.Common.{◌≡◌, ◌*◌, ◌≤◌, ◌++◌, length, take}
use Rattle.std.specs.Prelude.{All}
use Rattle.bit_texts.specs.Bits.{bits_of}
use Rattle.pcm_samples.proofs.samples.read_samples.Given as goal

abbrev pub invariant-loop-i : goal.invariant-loop-i
invariant-loop-i g l = record {
  count : length l.samples ≡ 384;
  bytes : All (λ sample. sample ≤ 255) (take (8 * l.i) l.samples);
  text : g.B.BitSource.left l.fn.bits ≡ bits_of (take (8 * l.i) l.samples) ++ g.B.BitSource.left l.bits;
  kept : g.B.BitSource.taken l.bits ++ g.B.BitSource.left l.bits ≡ g.B.BitSource.taken l.fn.bits ++ g.B.BitSource.left l.fn.bits;
}
