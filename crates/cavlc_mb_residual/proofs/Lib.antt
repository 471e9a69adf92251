pub mod Firsts
pub mod Quarters
pub mod ResidualLaws
pub mod Unsent
pub mod Chain
pub mod ResidualChain
pub mod CountLaws
pub mod AroundLaws
pub mod BeyondLaws
pub mod Searching
pub mod ResidualUnique
pub mod ResidualValid
pub mod ResidualSearching
mod Zeros
