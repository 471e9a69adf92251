use Rattle.cabac_inter.proofs.ValidPrediction.{prediction_valid, prediction_sizes, prediction_others}
use Rattle.cabac_inter.proofs.laws.what_is_spelled_is_valid.Goals as goal

pub returns-clause-valid : goal.returns-clause-valid
returns-clause-valid c shape done at mb made bins sizes = prediction_valid shape done at mb sizes made bins

pub returns-clause-sizes : goal.returns-clause-sizes
returns-clause-sizes c shape done at mb made bins sizes = prediction_sizes shape done at mb sizes made bins

pub returns-clause-others : goal.returns-clause-others
returns-clause-others c shape done at mb made bins sizes = prediction_others shape done at mb sizes made bins
