-- Accounts: what a thread's own calls, a take and a give make of them, and what two of them have in common.
pub mod Accounts
pub mod KernelCalls
pub mod Taking
pub mod Knowing
pub mod OneHistory
