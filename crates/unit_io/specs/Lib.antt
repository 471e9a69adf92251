pub mod Failures
pub mod Faults
pub mod Standard
pub mod Steps
