use Rattle.cavlc_mb_residual.proofs.Unsent.{luma_none_read}
use Rattle.cavlc_mb_residual.proofs.luma.read_luma.Goals as goal

pub returns-then-luma-eq0-clause-reads : goal.returns-then-luma-eq0-clause-reads
returns-then-luma-eq0-clause-reads g c = luma_none_read c.args.sides.now c.args.luma c.args.max c.args.bound c.args.mb.now _ c.if-luma-eq0.true c.requires.max
