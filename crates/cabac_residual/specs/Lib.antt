pub mod Contexts
pub mod Block
