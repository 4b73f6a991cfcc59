-- The calls: the table by families, and the step of each kind of element.
pub mod Effects
pub mod Semaphores
pub mod FlagGroups
pub mod CrossBuffers
pub mod Mutexes
pub mod ThreadCalls
pub mod TimerCalls
pub mod Elements
pub mod OwnerCalls
pub mod LineCalls
pub mod Families
pub mod Serving
pub mod MutexEffects
