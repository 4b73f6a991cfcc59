pub mod Callers
pub mod Lives
pub mod Writings
