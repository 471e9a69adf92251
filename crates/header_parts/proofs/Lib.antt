pub mod Loops
pub mod Operations
pub mod PartTexts
pub mod MarkingTexts
pub mod ReferenceTexts
