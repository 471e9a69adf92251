pub mod Samples
pub mod Alignment
