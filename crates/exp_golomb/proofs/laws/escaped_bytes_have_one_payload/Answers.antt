use Rattle.exp_golomb.proofs.Escapes.{one_payload}
use Rattle.exp_golomb.proofs.laws.escaped_bytes_have_one_payload.Goals as goal

pub returns : goal.returns
returns c = λ bytes first second h k. one_payload first second bytes h k
