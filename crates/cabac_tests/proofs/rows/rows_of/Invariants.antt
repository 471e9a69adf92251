use Rattle.std.proofs.Common.{◌≡◌}
use Rattle.cabac_tests.proofs.rows.rows_of.Given as goal

abbrev pub invariant-loop-mb : goal.invariant-loop-mb
invariant-loop-mb l = (l.rows.width ≡ l.shape.width) × (l.rows.height ≡ l.shape.height) × (l.rows.first ≡ l.shape.first) × (l.rows.count ≡ l.mb-index)
