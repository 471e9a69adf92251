use Rattle.binarisation.proofs.Spelling.{reads_refused}
use Rattle.binarisation.proofs.laws.what_is_not_read_was_refused.Goals as goal

pub returns-clause-numbers : goal.returns-clause-numbers
returns-clause-numbers g c = λ string s t. reads_refused g.S.BinSource.step string s t

pub returns-clause-signed : goal.returns-clause-signed
returns-clause-signed g c = λ string s t. reads_refused g.S.BinSource.step string s t
