use Rattle.h264_types.proofs.QpLaws.{goes_round}
use Rattle.h264_types.proofs.laws.quantiser_goes_round.Goals as goal

pub returns : goal.returns
returns c = goes_round
