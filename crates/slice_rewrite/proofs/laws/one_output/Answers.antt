use Rattle.slice_rewrite.proofs.Headline.{one-output}
use Rattle.slice_rewrite.proofs.laws.one_output.Goals as goal

pub returns : goal.returns
returns c = one-output
