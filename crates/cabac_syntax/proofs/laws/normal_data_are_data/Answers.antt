use Rattle.cabac_syntax.specs.SliceData.{first_states}
use Rattle.cabac_syntax.proofs.DataLaws.{normal_data}
use Rattle.cabac_syntax.proofs.laws.normal_data_are_data.Goals as goal

pub returns : goal.returns
returns c = λ init shape. normal_data (first_states init shape) shape
