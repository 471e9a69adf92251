use Rattle.code_tables.proofs.Tables.{IsCodeTable-coeff_token}
use Rattle.code_tables.proofs.laws.no_coeff_token_begins_another.Goals as goal

pub returns : goal.returns
returns c = IsCodeTable-coeff_token
