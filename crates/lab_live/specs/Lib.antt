pub mod Answers
pub mod Helps
pub mod Sessions
pub mod States
pub mod Wholes
