use Rattle.header_parts.specs.RefPicMarking.{operation_text}
use Rattle.ref_pic_lists.proofs.Written.{stopped, failed, member_stopped}
use Rattle.header_parts.proofs.write_marking_text.write_each.Goals as goal

pub returns-in_err-write_operation : goal.returns-in_err-write_operation
returns-in_err-write_operation g c = failed c.from_residual.result c.from_residual.ensures.0 (member_stopped operation_text c.args.operations.now c.loop-operation.operation-index _ _ _ _ c.loop-operation-test.true c.loop-operation.invariant (stopped c.in_err-write_operation.ensures))
