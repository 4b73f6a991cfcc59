pub mod Parts
pub mod Plays
pub mod Entries
pub mod Lines
pub mod Says
