use Rattle.cavlc_macroblock.proofs.Layers.{IsPrefixFree-macroblock}
use Rattle.cavlc_macroblock.proofs.laws.no_macroblock_begins_another.Goals as goal

pub returns : goal.returns
returns c = IsPrefixFree-macroblock
