use Rattle.code_tables.proofs.PatternCodes.{some_code, one_code}
use Rattle.code_tables.proofs.laws.patterns_have_one_code.Goals as goal

pub returns : goal.returns
returns c = record { some = some_code; once = one_code }
