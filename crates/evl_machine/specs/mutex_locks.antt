-- Mutexes: what a caller does with them with the kernel in hand, at a word alone, and by waiting.
pub mod InWord
pub mod Locking
pub mod MutexLocks
pub mod MutexWaits
