pub mod SliceData
pub mod Kept
pub mod Standing
pub mod Written
