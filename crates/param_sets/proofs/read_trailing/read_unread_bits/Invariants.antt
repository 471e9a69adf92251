use Rattle.std.proofs.Common.{◌≡◌, ◌++◌, length}
use Rattle.param_sets.proofs.read_trailing.read_unread_bits.Given as goal

abbrev pub invariant-loop-bit : goal.invariant-loop-bit
invariant-loop-bit g l = let left = g.B.BitSource.left in l.all.items ++ left l.bits ≡ left l.fn.bits

abbrev pub decreases-loop-bit : goal.decreases-loop-bit
decreases-loop-bit g l = let left = g.B.BitSource.left in length (left l.bits)
