pub mod Strings
pub mod CodeSteps
pub mod Numbers
pub mod Spelling
pub mod OneString
pub mod Each
pub mod ElementStrings
pub mod HasBins
