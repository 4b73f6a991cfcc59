pub mod accounts
pub mod rule
pub mod lock
pub mod ties
pub mod worlds
pub mod words
pub mod Crossing
