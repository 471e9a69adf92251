use Rattle.mb_neighbours.proofs.Recent.{before-at_hand, left_of-at_hand, above_of-at_hand}
use Rattle.mb_neighbours.proofs.laws.neighbours_are_held.Goals as goal

pub returns-clause-before : goal.returns-clause-before
returns-clause-before g c = before-at_hand

pub returns-clause-left : goal.returns-clause-left
returns-clause-left g c = left_of-at_hand

pub returns-clause-above : goal.returns-clause-above
returns-clause-above g c = above_of-at_hand
