use Rattle.recode_run.proofs.Tables.{one-table}
use Rattle.recode_run.proofs.laws.one_table.Goals as goal

pub returns : goal.returns
returns c = one-table
