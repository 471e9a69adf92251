mod Pairs
pub mod Kept
pub mod Rows
pub mod Flags
mod Same
mod Ends
pub mod Members
mod TextParts
mod Runs
pub mod Texts
pub mod Known
pub mod Put
pub mod Decided
