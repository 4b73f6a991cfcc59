pub mod Draws
pub mod Machines
