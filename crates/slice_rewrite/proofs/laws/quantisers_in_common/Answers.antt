use Rattle.slice_rewrite.proofs.Quantisers.{quantiser_in_view}
use Rattle.slice_rewrite.proofs.laws.quantisers_in_common.Goals as goal

pub returns : goal.returns
returns c = quantiser_in_view
