-- Settling: what is played after a call, and which callback each play called.
pub mod Paths
pub mod Settling
pub mod Fires
pub mod Settled
