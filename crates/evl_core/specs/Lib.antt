pub mod accounts
pub mod rule
pub mod lock
pub mod worlds
pub mod words
