pub mod Initial
pub mod States
pub mod Coders
pub mod Terms
pub mod Increments
