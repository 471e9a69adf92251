pub mod Loops
pub mod Operations
pub mod Written
pub mod ModificationTexts
pub mod Entries
pub mod WeightTexts
pub mod AnyRefusal
