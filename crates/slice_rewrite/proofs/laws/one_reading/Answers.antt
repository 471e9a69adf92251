use Rattle.slice_rewrite.proofs.Headline.{one-reading}
use Rattle.slice_rewrite.proofs.laws.one_reading.Goals as goal

pub returns : goal.returns
returns c = one-reading
