pub mod Steps
pub mod Runs
pub mod Zeros
pub mod Closed
