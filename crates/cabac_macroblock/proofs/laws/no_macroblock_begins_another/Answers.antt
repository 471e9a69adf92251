use Rattle.binarisation.proofs.Spelling.{one_value}
use Rattle.cabac_macroblock.specs.MacroblockLayer.{macroblock}
use Rattle.cabac_macroblock.proofs.laws.no_macroblock_begins_another.Goals as goal

pub returns : goal.returns
returns c = λ shape done at field. one_value (macroblock shape done at field)
