pub mod MacroblockResidual
pub mod Levels
