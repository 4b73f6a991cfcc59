-- The history of the core's lock: that each step keeps it, and that no step makes a lost take up.
pub mod LockSteps
pub mod LockLaws
