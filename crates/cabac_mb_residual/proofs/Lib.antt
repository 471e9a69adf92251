pub mod Lists
pub mod SoFar
pub mod Flags
pub mod Written
pub mod Spelled
pub mod OneString
pub mod Validity
pub mod ResidualBins
