pub mod Cells
pub mod Magnitudes
pub mod Neighbours
pub mod Segments
pub mod StartingStates
pub mod Steps
pub mod OpenBins
