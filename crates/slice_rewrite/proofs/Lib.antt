mod Layers
pub mod Normal
pub mod Stops
pub mod WrittenLists
pub mod WrittenSets
pub mod Slices
pub mod Reasons
pub mod Judging
pub mod Splitting
pub mod ComesBack
pub mod Headline
pub mod SliceForms
pub mod Picked
pub mod AsItStands
pub mod Quantisers
