use Rattle.cabac_contexts.proofs.Neighbours.{same_flag_a, same_flag_b}
use Rattle.cabac_contexts.proofs.Magnitudes.{same_magnitudes}
use Rattle.cabac_contexts.proofs.laws.the_blocks_before_are_enough.Goals as goal

pub returns-clause-a : goal.returns-clause-a
returns-clause-a c = same_flag_a

pub returns-clause-b : goal.returns-clause-b
returns-clause-b c = same_flag_b

pub returns-clause-magnitudes : goal.returns-clause-magnitudes
returns-clause-magnitudes c shape done at field mb other list block axis wide below same =
    same_magnitudes shape done at field list axis block mb other same wide below
