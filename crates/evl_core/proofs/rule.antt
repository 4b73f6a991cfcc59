-- The rule of the core's table, which the opening meets and each step keeps.
pub mod Noting
pub mod CoreSteps
pub mod ThreadSteps
pub mod TieRule
pub mod TableTies
pub mod TieOpens
