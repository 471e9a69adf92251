use Rattle.std.proofs.Common.{◌≡◌, ◌++◌, length}
use Rattle.exp_golomb.specs.Syntax.{outcome_of}
use Rattle.header_parts.specs.RefPicMarking.{operation_list}
use Rattle.header_parts.proofs.Operations.{IsReading}
use Rattle.header_parts.proofs.read_marking_text.read_operations.Given as goal

abbrev pub invariant-loop-operations : goal.invariant-loop-operations
invariant-loop-operations g l = record {
  reads : let left = g.B.BitSource.left in IsReading l.operations.items (left l.bits) (outcome_of operation_list (left l.fn.bits));
  kept : g.B.BitSource.taken l.bits ++ g.B.BitSource.left l.bits ≡ g.B.BitSource.taken l.fn.bits ++ g.B.BitSource.left l.fn.bits;
}

abbrev pub decreases-loop-operations : goal.decreases-loop-operations
decreases-loop-operations g l = let left = g.B.BitSource.left in length (left l.bits)
