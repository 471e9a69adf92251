use Rattle.code_tables.proofs.Tables.{IsCodeTable-total_zeros}
use Rattle.code_tables.proofs.laws.no_total_zeros_begins_another.Goals as goal

pub returns : goal.returns
returns c = IsCodeTable-total_zeros
