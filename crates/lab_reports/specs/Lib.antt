pub mod Calls
pub mod Differences
pub mod Events
pub mod Json
pub mod Quotes
