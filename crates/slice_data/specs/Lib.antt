pub mod Reading
pub mod WrittenForm
pub mod Writing
