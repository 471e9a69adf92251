pub mod IntraPrediction
pub mod CodedBlockPattern
pub mod Stages
pub mod MbType
pub mod MacroblockLayer
