pub mod Bits
pub mod NormalLaws
pub mod ValidLaws
pub mod SliceLaws
