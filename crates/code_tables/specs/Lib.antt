pub mod Codes
pub mod Groups
pub mod CoeffToken
pub mod TotalZeros
pub mod RunBefore
pub mod CodedBlockPattern
pub mod SignificanceMaps
