use Rattle.std.proofs.Common.{◌≡◌, ◌-◌, ◌<◌, ◌^◌, false}
use Rattle.binarisation.specs.Codes.{low_bits}
use Rattle.binarisation.proofs.Strings.{Continues}
use Rattle.binarisation.proofs.codes.read_low_bits.Given as goal

abbrev pub invariant-loop-i : goal.invariant-loop-i
invariant-loop-i g l = record {
  going : g.S.BinSource.over l.s ≡ false;
  small : l.value < 2 ^ l._i;
  reads : Continues g.S.BinSource.step (low_bits 0 l.n) l.fn.s (low_bits l.value (l.n - l._i)) l.s;
}
