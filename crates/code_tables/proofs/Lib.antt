pub mod CodeTables
pub mod Groups
pub mod PatternCodes
pub mod Tables
pub mod MapsOfBlocks
