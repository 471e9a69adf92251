pub mod Places
pub mod SliceText
pub mod Reading
pub mod Kept
pub mod Written
pub mod Standing
