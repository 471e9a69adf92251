use Rattle.slice_rewrite.proofs.Reasons.{not-refused, refused-once}
use Rattle.slice_rewrite.proofs.laws.one_reason.Goals as goal

pub returns : goal.returns
returns c = record { item = not-refused; reason = refused-once }
