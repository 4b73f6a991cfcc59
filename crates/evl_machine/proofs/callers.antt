-- Callers: how they are made, what they keep over their own calls and those of others, and how they come together.
pub mod AwaitedCalls
pub mod Calling
pub mod Staying
pub mod Seating
pub mod Newcomers
pub mod Gathering
pub mod Together
pub mod Visits
pub mod Opened
pub mod OneSteps
