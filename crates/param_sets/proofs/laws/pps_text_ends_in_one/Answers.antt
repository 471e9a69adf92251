use Rattle.param_sets.proofs.TrailingWritten.{payload_ends}
use Rattle.param_sets.specs.PpsCodes.{pps_fields_text}
use Rattle.param_sets.proofs.laws.pps_text_ends_in_one.Goals as goal

pub returns : goal.returns
returns c = λ pps. payload_ends (pps_fields_text pps)
