pub mod Limits
pub mod Rows
pub mod Histories
pub mod Insides
