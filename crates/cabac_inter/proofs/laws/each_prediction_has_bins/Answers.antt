use Rattle.cabac_inter.proofs.PredictionBins.{prediction_spelled}
use Rattle.cabac_inter.proofs.laws.each_prediction_has_bins.Goals as goal

pub returns : goal.returns
returns c = prediction_spelled
