pub mod MacroblockLayer
pub mod MbType
pub mod Macroblock
pub mod Reading
