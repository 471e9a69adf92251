use Rattle.param_sets.proofs.TrailingWritten.{zero_written}
use Rattle.param_sets.proofs.write_values.write_trailing_bits.Goals as goal

pub loop-out-preserved : goal.loop-out-preserved
loop-out-preserved g c = zero_written _ _ _ _ (λ whole. let wrong = c.loop-out-test.ensures.1 whole in cc) c.loop-out.invariant c.in_ok-put-2.ensures.ok
