pub mod Bins
pub mod Decoding
pub mod Encoding
pub mod LowBits
pub mod OffsetBits
