pub mod LumaBlocks
pub mod Counts
pub mod Residual
pub mod MacroblockResidual
