use Rattle.binarisation.proofs.Spelling.{reads_promised}
use Rattle.binarisation.proofs.laws.what_is_ahead_is_read.Goals as goal

pub returns-clause-numbers : goal.returns-clause-numbers
returns-clause-numbers g c = λ string bins others value result s t. reads_promised g.S.BinSource.step string bins others value result s t

pub returns-clause-signed : goal.returns-clause-signed
returns-clause-signed g c = λ string bins others value result s t. reads_promised g.S.BinSource.step string bins others value result s t
