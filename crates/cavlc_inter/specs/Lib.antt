pub mod Parts
pub mod InterPrediction
