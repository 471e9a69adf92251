use Rattle.std.proofs.Common.{◌≡◌, ◌-◌, ◌/◌, ◌^◌, false}
use Rattle.binarisation.specs.Codes.{low_bits}
use Rattle.binarisation.proofs.Strings.{Completes}
use Rattle.binarisation.proofs.codes.write_low_bits.Given as goal

abbrev pub invariant-loop-i : goal.invariant-loop-i
invariant-loop-i g l = record {
  going : g.S.BinSink.over l.s ≡ false;
  writes : Completes g.S.BinSink.step (low_bits (l.value / 2 ^ (l.n - 0)) (l.n - 0)) l.fn.s (low_bits (l.value / 2 ^ (l.n - l.i)) (l.n - l.i)) l.s;
}
