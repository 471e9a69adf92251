use Rattle.std.proofs.Common.{◌≡◌, drop, length}
use Rattle.std.specs.Prelude.{is_some}
use Rattle.exp_golomb.specs.EmulationPrevention.{payload_of}
use Rattle.annexb_units.proofs.unescaping.has_payload.Given as goal

abbrev pub invariant-loop-zero : goal.invariant-loop-zero
invariant-loop-zero l = is_some (payload_of l.rest) ≡ is_some (payload_of (drop 1 l.unit))

abbrev pub decreases-loop-zero : goal.decreases-loop-zero
decreases-loop-zero l = length l.rest
