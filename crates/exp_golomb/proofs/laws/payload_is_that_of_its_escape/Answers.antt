use Rattle.exp_golomb.proofs.Escapes.{escaped-payload_of, payload_of-escaped}
use Rattle.exp_golomb.proofs.laws.payload_is_that_of_its_escape.Goals as goal

pub returns : goal.returns
returns c = λ bytes payload. (escaped-payload_of payload bytes, payload_of-escaped payload bytes)
