use Rattle.cabac_contexts.proofs.Segments.{ended}
use Rattle.cabac_contexts.proofs.laws.an_ended_segment_took_its_code.Goals as goal

pub returns : goal.returns
returns c = ended
