use Rattle.std.proofs.Common.{◌≡◌, ◌++◌, map, true}
use Rattle.arrayvec.specs.ArrayVec.{array_vec_len}
use Rattle.std.specs.List.{AllByRecursion}
use Rattle.cavlc_residual.specs.Coefficients.{is_minus}
use Rattle.cavlc_residual.specs.Block.{is_one}
use Rattle.cavlc_residual.proofs.parts.read_ones.Given as goal

abbrev pub invariant-loop-i : goal.invariant-loop-i
invariant-loop-i g l = record {
  taken : array_vec_len l.ones ≡ l._i;
  ones : AllByRecursion (λ n. is_one n ≡ true) l.ones.items;
  took : g.B.BitSource.left l.initial.b ≡ map is_minus l.ones.items ++ g.B.BitSource.left l.b;
  kept : g.B.BitSource.taken l.b ++ g.B.BitSource.left l.b ≡ g.B.BitSource.taken l.initial.b ++ g.B.BitSource.left l.initial.b;
}
