use Rattle.std.proofs.Common.{drop}
use Rattle.std.specs.List.{flat_map}
use Rattle.bit_texts.specs.Texts.{Wrote}
use Rattle.header_parts.specs.RefPicMarking.{operation_text}
use Rattle.header_parts.proofs.write_marking_text.write_each.Given as goal

abbrev pub invariant-loop-operation : goal.invariant-loop-operation
invariant-loop-operation g l = let put = g.B.BitSink.bits in Wrote (put l.fn.out) (put l.out) (flat_map operation_text l.operations) (flat_map operation_text (drop l.operation-index l.operations))
