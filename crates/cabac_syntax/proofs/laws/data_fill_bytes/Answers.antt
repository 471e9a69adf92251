use Rattle.std.proofs.Common.{false}
use Rattle.cabac_syntax.specs.SliceData.{first_states}
use Rattle.cabac_syntax.proofs.DataLaws.{data_fill}
use Rattle.cabac_syntax.proofs.laws.data_fill_bytes.Goals as goal

pub returns : goal.returns
returns c = λ init shape. data_fill false (first_states init shape) shape
