use Rattle.cabac_contexts.proofs.Segments.{promised}
use Rattle.cabac_contexts.proofs.laws.a_code_promises_its_bins.Goals as goal

pub returns : goal.returns
returns c = promised
