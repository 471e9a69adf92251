use Rattle.std.proofs.Common.{inr}
use Rattle.recode_run.proofs.report.write_report.Goals as goal

-- the line of want of memory has 14 bytes
pub returns-in-Ok-put_line-2-clause-line : goal.returns-in-Ok-put_line-2-clause-line
returns-in-Ok-put_line-2-clause-line g c = inr (14, c.in-Ok-put_line-2.ensures.ok)
