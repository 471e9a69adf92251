use Rattle.binarisation.proofs.Spelling.{one_value}
use Rattle.binarisation.proofs.laws.no_bins_begin_others.Goals as goal

pub returns-clause-numbers : goal.returns-clause-numbers
returns-clause-numbers c = λ string. one_value string

pub returns-clause-signed : goal.returns-clause-signed
returns-clause-signed c = λ string. one_value string

pub returns-clause-flags : goal.returns-clause-flags
returns-clause-flags c = λ string. one_value string
