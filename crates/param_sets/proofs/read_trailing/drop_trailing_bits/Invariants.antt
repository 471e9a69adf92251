use Rattle.std.proofs.Common.{◌≡◌, ◌++◌, replicate, false}
use Rattle.param_sets.proofs.read_trailing.drop_trailing_bits.Given as goal

abbrev pub invariant-loop-zeros : goal.invariant-loop-zeros
invariant-loop-zeros l = l.fn.bits.items ≡ l.bits.items ++ replicate l._zeros false
