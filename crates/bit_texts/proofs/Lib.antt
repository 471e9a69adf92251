pub mod LastBit
pub mod Numbers
pub mod Bytes
pub mod Windows
pub mod Reading
pub mod Turns
pub mod Writing
pub mod Inverting
