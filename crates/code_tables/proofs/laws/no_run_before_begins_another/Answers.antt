use Rattle.code_tables.proofs.Tables.{IsCodeTable-run_before}
use Rattle.code_tables.proofs.laws.no_run_before_begins_another.Goals as goal

pub returns : goal.returns
returns c = IsCodeTable-run_before
