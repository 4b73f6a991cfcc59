-- Mutexes: what a caller does with them with the kernel in hand, at a word alone, and by waiting.
pub mod SeatsAt
pub mod LockingLaws
pub mod LockingCalls
pub mod LockingTies
pub mod WordCalls
pub mod MutexLocks
pub mod MutexUnlocks
pub mod MutexWaitLaws
pub mod InWords
