-- The ties of the mutexes' words to the kernel's records: over each step of a word and each call, and what they exclude.
pub mod TieWords
pub mod TieSteps
pub mod TieRecords
pub mod TieVisits
pub mod TieFinds
pub mod FoundWords
pub mod Settling
