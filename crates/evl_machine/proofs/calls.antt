-- The calls of the kernel by a caller: a visit, waiting, and being turned away.
pub mod KernelVisits
pub mod WaitingLaws
pub mod TurnedAway
