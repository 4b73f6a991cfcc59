-- Callers: who acts for a thread, what a contract sees of a caller, at rest and with the kernel in hand.
pub mod Unfinished
pub mod Actors
pub mod JustTaken
pub mod Handles
pub mod CallerTokens
pub mod Callers
pub mod InHand
pub mod OneSteps
