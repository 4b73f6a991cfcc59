pub mod Hosts
pub mod Passes
