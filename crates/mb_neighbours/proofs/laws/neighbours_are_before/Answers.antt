use Rattle.mb_neighbours.proofs.NearLaws.{left_of-before, above_of-before}
use Rattle.mb_neighbours.proofs.laws.neighbours_are_before.Goals as goal

pub returns-clause-left : goal.returns-clause-left
returns-clause-left c = left_of-before

pub returns-clause-above : goal.returns-clause-above
returns-clause-above c = above_of-before
