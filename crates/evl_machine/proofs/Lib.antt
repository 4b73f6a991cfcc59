pub mod callers
pub mod stax_locks
pub mod Crossing
pub mod mutex_locks
pub mod calls
