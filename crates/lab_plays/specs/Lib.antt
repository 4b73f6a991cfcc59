pub mod Checks
pub mod Expects
pub mod Folders
pub mod Notes
pub mod Plays
pub mod States
