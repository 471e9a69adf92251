pub mod SliceHeader
pub mod Views
pub mod HeaderCodes
pub mod Shape
