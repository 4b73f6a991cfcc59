pub mod Explains
pub mod Grammar
pub mod Helps
pub mod Outcomes
