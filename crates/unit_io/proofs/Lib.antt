mod CountOfFailures
pub mod Known
