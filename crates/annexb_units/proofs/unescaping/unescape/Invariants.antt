use Rattle.std.proofs.Common.{◌≡◌, drop, length}
use Rattle.exp_golomb.specs.EmulationPrevention.{payload_of}
use Rattle.annexb_units.specs.Zeros.{payload_behind}
use Rattle.annexb_units.proofs.unescaping.unescape.Given as goal

abbrev pub invariant-loop-zero : goal.invariant-loop-zero
invariant-loop-zero l = payload_behind l.payload.items l.rest ≡ payload_of (drop 1 l.unit)

abbrev pub decreases-loop-zero : goal.decreases-loop-zero
decreases-loop-zero l = length l.rest
