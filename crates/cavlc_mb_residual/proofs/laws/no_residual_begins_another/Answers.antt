use Rattle.cavlc_mb_residual.proofs.ResidualUnique.{IsPrefixFree-residual}
use Rattle.cavlc_mb_residual.proofs.laws.no_residual_begins_another.Goals as goal

pub returns : goal.returns
returns c = IsPrefixFree-residual
