pub mod Refusal
pub mod ScalingLists
pub mod TrailingBits
pub mod SequenceParameterSet
pub mod PictureParameterSet
pub mod SpsCodes
pub mod PpsCodes
pub mod Sets
