use Rattle.binarisation.proofs.Spelling.{one_value}
use Rattle.cabac_inter.specs.InterPrediction.{inter_prediction}
use Rattle.cabac_inter.proofs.laws.no_prediction_begins_another.Goals as goal

pub returns : goal.returns
returns c shape done at mb = one_value (inter_prediction shape done at mb)
