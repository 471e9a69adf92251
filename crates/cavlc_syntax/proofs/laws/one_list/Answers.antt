use Rattle.cavlc_syntax.proofs.Texts.{one_list}
use Rattle.cavlc_syntax.proofs.laws.one_list.Goals as goal

pub returns : goal.returns
returns c = one_list
