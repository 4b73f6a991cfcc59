-- Histories: legal runs, and the laws over them.
pub mod Histories
pub mod Replays
pub mod Worlds
pub mod Parts
pub mod Transfers
pub mod Laws
pub mod WaitInvariant
pub mod OwnerInvariant
pub mod MutexRests
pub mod WaitOwners
pub mod MutexEnds
