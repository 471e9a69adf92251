pub mod Written
pub mod HeaderFound
pub mod HeaderLaws
