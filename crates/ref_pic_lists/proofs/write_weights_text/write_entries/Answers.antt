use Rattle.ref_pic_lists.specs.PredWeightTable.{entry_text}
use Rattle.ref_pic_lists.proofs.Written.{stopped, failed, member_stopped}
use Rattle.ref_pic_lists.proofs.write_weights_text.write_entries.Goals as goal

pub returns-in_err-write_entry : goal.returns-in_err-write_entry
returns-in_err-write_entry g c = failed c.from_residual.result c.from_residual.ensures.0 (member_stopped entry_text c.args.entries.now c.loop-entry.entry-index _ _ _ _ c.loop-entry-test.true c.loop-entry.invariant (stopped c.in_err-write_entry.ensures))
