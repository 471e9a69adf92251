use Rattle.mb_neighbours.proofs.NearLaws.{left_of-append, above_of-append}
use Rattle.mb_neighbours.proofs.laws.the_list_before_is_enough.Goals as goal

pub returns-clause-left : goal.returns-clause-left
returns-clause-left c = left_of-append

pub returns-clause-above : goal.returns-clause-above
returns-clause-above c = above_of-append
