use Rattle.binarisation.proofs.Spelling.{reads_gave}
use Rattle.binarisation.proofs.laws.what_is_read_was_given.Goals as goal

pub returns-clause-numbers : goal.returns-clause-numbers
returns-clause-numbers g c = λ string value s t. reads_gave g.S.BinSource.step string value s t

pub returns-clause-signed : goal.returns-clause-signed
returns-clause-signed g c = λ string value s t. reads_gave g.S.BinSource.step string value s t
