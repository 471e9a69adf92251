pub mod Golomb
pub mod Escapes
pub mod Fronts
pub mod Syntaxes
pub mod Series
pub mod Written
mod Writes
mod BitVecs
mod Places
mod Leading
