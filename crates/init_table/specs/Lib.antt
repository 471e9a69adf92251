pub mod InitTable
pub mod TableText
