use Rattle.std.proofs.Common.{w8}
use Rattle.std.proofs.lemmas.Int.{to_z-of_z}
use Rattle.cavlc_mb_residual.proofs.Unsent.{empty_written}
use Rattle.cavlc_mb_residual.proofs.lists.write_counted.Goals as goal

pub returns-then-total-eq0 : goal.returns-then-total-eq0
returns-then-total-eq0 g c = empty_written c.args.coded _ c.args.nc c.args.levels.now _ _ _ c.if-coded.true (to_z-of_z w8 c.args.nc c.ranges.nc) c.write_empty.ensures
