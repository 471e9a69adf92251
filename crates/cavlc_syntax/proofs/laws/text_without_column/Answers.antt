use Rattle.cavlc_syntax.proofs.Texts.{lists_of_both, slice_of_both}
use Rattle.cavlc_syntax.proofs.laws.text_without_column.Goals as goal

pub returns-clause-lists : goal.returns-clause-lists
returns-clause-lists c = lists_of_both

pub returns-clause-texts : goal.returns-clause-texts
returns-clause-texts c = slice_of_both
