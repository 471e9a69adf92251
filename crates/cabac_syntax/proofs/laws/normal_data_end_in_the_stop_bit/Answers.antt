use Rattle.cabac_syntax.specs.SliceData.{first_states}
use Rattle.cabac_syntax.proofs.DataLaws.{data_stop}
use Rattle.cabac_syntax.proofs.laws.normal_data_end_in_the_stop_bit.Goals as goal

pub returns : goal.returns
returns c = λ init shape. data_stop (first_states init shape) shape
