-- All that is known of the kernel: a thread's account, what is read of a token, and what a call does to a kernel in hand.
pub mod Nothing
pub mod Accounts
pub mod Seats
pub mod KernelCalls
pub mod OneHistory
