pub mod Account
pub mod Pieces
pub mod Report
pub mod Run
pub mod Status
pub mod Headline
pub mod Words
