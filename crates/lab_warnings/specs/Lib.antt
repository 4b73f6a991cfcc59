pub mod Reasons
pub mod Runs
pub mod Warnings
