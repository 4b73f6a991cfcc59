pub mod Drawings
pub mod Joins
pub mod Runs
