use Rattle.cabac_syntax.proofs.Columns.{lists_of_both}
use Rattle.cabac_syntax.proofs.laws.lists_without_column.Goals as goal

pub returns : goal.returns
returns c = lists_of_both
