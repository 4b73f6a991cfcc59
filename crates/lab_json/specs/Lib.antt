pub mod Calls
pub mod Notices
pub mod Parts
pub mod Runs
pub mod States
pub mod Texts
pub mod Warned
