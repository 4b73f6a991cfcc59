pub mod Queues
pub mod Steps
pub mod Semaphores
pub mod FlagGroups
