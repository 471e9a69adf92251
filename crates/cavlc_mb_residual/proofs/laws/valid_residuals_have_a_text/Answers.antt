use Rattle.cavlc_mb_residual.proofs.ResidualValid.{valid_residual, residual_not_beyond}
use Rattle.cavlc_mb_residual.proofs.laws.valid_residuals_have_a_text.Goals as goal

pub returns : goal.returns
returns c = record { text = valid_residual; within = λ s p bound mb is. (is.sizes, residual_not_beyond s p bound mb is) }
