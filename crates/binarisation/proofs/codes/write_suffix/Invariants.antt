use Rattle.std.proofs.Common.{◌≡◌, ◌-◌, ◌+◌, ◌^◌, ◌≤◌, false}
use Rattle.binarisation.specs.Codes.{suffix, suffix_above}
use Rattle.binarisation.proofs.Strings.{Completes}
use Rattle.binarisation.proofs.codes.write_suffix.Given as goal

abbrev pub invariant-loop-k : goal.invariant-loop-k
invariant-loop-k g l = record {
  going : g.S.BinSink.over l.s ≡ false;
  base : l.base + 2 ^ l.order ≡ 2 ^ l.k;
  most : l.base ≤ l.value;
  writes : Completes g.S.BinSink.step (suffix l.order l.most) l.fn.s (suffix_above l.base l.k (l.order + l.most - l.k)) l.s;
}
