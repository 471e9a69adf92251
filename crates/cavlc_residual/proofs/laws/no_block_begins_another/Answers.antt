use Rattle.cavlc_residual.proofs.BlockLemmas.{IsPrefixFree-block}
use Rattle.cavlc_residual.proofs.laws.no_block_begins_another.Goals as goal

pub returns : goal.returns
returns c = IsPrefixFree-block
