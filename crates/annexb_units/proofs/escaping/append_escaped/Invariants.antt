use Rattle.std.proofs.Common.{◌≡◌, ◌++◌, length}
use Rattle.exp_golomb.specs.EmulationPrevention.{escaped}
use Rattle.annexb_units.proofs.escaping.append_escaped.Given as goal

abbrev pub invariant-loop-zero : goal.invariant-loop-zero
invariant-loop-zero l = l.out.items ++ escaped l.rest ≡ l.fn.out.items ++ escaped l.payload

abbrev pub decreases-loop-zero : goal.decreases-loop-zero
decreases-loop-zero l = length l.rest
