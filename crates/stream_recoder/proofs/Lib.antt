pub mod Outputs
pub mod UnitForms
pub mod Units
pub mod Pieces
