-- The history of the core's lock.
pub mod Lock
