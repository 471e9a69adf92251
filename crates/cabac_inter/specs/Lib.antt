pub mod InterPrediction
pub mod Stages
