use Rattle.binarisation.proofs.Spelling.{writes_put}
use Rattle.binarisation.proofs.laws.what_is_written_was_put.Goals as goal

pub returns-clause-numbers : goal.returns-clause-numbers
returns-clause-numbers g c = λ string value s t. writes_put g.S.BinSink.step string value s t

pub returns-clause-signed : goal.returns-clause-signed
returns-clause-signed g c = λ string value s t. writes_put g.S.BinSink.step string value s t
