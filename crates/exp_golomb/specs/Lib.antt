pub mod Bitstream
pub mod Code
pub mod Element
pub mod EmulationPrevention
pub mod Syntax
