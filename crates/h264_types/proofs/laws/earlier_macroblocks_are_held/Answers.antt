use Rattle.h264_types.proofs.LastRowsLaws.{held_in_rows, held_in_pairs}
use Rattle.h264_types.proofs.laws.earlier_macroblocks_are_held.Goals as goal

pub returns-clause-rows : goal.returns-clause-rows
returns-clause-rows g c = λ of shape rows mbs at number mbaff stands found. held_in_rows of shape rows mbs at number stands mbaff found

pub returns-clause-pairs : goal.returns-clause-pairs
returns-clause-pairs g c = λ of shape rows mbs at number mbaff stands found. held_in_pairs of shape rows mbs at number stands mbaff found
