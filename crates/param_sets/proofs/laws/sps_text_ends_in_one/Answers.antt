use Rattle.param_sets.proofs.TrailingWritten.{payload_ends}
use Rattle.param_sets.specs.SpsCodes.{sps_fields_text}
use Rattle.param_sets.proofs.laws.sps_text_ends_in_one.Goals as goal

pub returns : goal.returns
returns c = λ sps. payload_ends (sps_fields_text sps)
