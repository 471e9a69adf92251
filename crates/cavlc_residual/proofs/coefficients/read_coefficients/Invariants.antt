use Rattle.std.proofs.Common.{◌≡◌, ◌++◌, ◌+◌, ◌-◌, ◌≤◌, take, drop}
use Rattle.arrayvec.specs.ArrayVec.{array_vec_len}
use Rattle.cavlc_residual.proofs.CoefficientLemmas.{Completes}
use Rattle.cavlc_residual.proofs.coefficients.read_coefficients.Given as goal

abbrev pub invariant-loop-i : goal.invariant-loop-i
invariant-loop-i g l = record {
  taken : array_vec_len l.levels ≡ array_vec_len l.initial.levels + l._i;
  before : take (array_vec_len l.initial.levels) l.levels.items ≡ l.initial.levels.items;
  small : l.suffix_length ≤ 6;
  completes : Completes l.count (l.count - l._i) l.bound l.suffix_length l.extra l.initial.suffix_length l.initial.extra (g.B.BitSource.left l.initial.b) (g.B.BitSource.left l.b) (drop (array_vec_len l.initial.levels) l.levels.items);
  kept : g.B.BitSource.taken l.b ++ g.B.BitSource.left l.b ≡ g.B.BitSource.taken l.initial.b ++ g.B.BitSource.left l.initial.b;
}
