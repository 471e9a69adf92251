pub mod Periods
pub mod Written
pub mod Forms
pub mod Recoder
