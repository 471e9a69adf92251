use Rattle.cabac_inter.proofs.OnePrediction.{prediction_one}
use Rattle.cabac_inter.proofs.laws.each_prediction_has_one_string.Goals as goal

pub returns : goal.returns
returns c = prediction_one
