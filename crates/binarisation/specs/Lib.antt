pub mod BinString
pub mod Each
pub mod Codes
pub mod MacroblockType
pub mod Elements
