use Rattle.slice_rewrite.proofs.Judging.{one-verdict}
use Rattle.slice_rewrite.proofs.laws.one_verdict.Goals as goal

pub returns : goal.returns
returns c = one-verdict
