pub mod Blocks
pub mod OneString
pub mod BlockLevels
pub mod BlockBins
pub mod Places
