use Rattle.cabac_syntax.specs.SliceData.{first_states}
use Rattle.cabac_syntax.proofs.DataLaws.{one_normal}
use Rattle.cabac_syntax.proofs.laws.one_normal_form.Goals as goal

pub returns : goal.returns
returns c = λ init shape. one_normal (first_states init shape) shape
