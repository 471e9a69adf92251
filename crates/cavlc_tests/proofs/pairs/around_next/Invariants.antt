use Rattle.std.proofs.Common.{◌≡◌}
use Rattle.cavlc_tests.proofs.pairs.around_next.Given as goal

abbrev pub invariant-loop-mb : goal.invariant-loop-mb
invariant-loop-mb l = (l.rows.width ≡ l.shape.width) × (l.rows.height ≡ l.shape.height) × (l.rows.first ≡ l.shape.first) × (l.rows.mbaff ≡ l.shape.mbaff) × (l.rows.count ≡ l.mb-index)
