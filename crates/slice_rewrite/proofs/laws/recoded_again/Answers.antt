use Rattle.slice_rewrite.proofs.Headline.{recoded-again}
use Rattle.slice_rewrite.proofs.laws.recoded_again.Goals as goal

pub returns : goal.returns
returns c = recoded-again
