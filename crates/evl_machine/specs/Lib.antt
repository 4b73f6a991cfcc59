pub mod mutex_locks
pub mod stax_locks
pub mod callers
pub mod calls
