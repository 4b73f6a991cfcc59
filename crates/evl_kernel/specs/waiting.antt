-- Waits: how they begin and end, and who waits in which queue.
pub mod Waits
pub mod Beginnings
pub mod Endings
pub mod Standing
