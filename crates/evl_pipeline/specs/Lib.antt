pub mod Limits
pub mod Plans
pub mod NumberSet
pub mod Counts
pub mod Lines
pub mod Sides
pub mod ByLine
pub mod Names
