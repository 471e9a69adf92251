use Rattle.cabac_syntax.specs.SliceData.{first_states}
use Rattle.cabac_syntax.proofs.OneList.{one_list_of}
use Rattle.cabac_syntax.proofs.laws.one_list.Goals as goal

pub returns : goal.returns
returns c = λ init shape. one_list_of (first_states init shape) shape
