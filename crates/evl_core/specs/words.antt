-- The words of the mutexes in the core's table: seats, places, what each step does there and what it notes.
pub mod Homes
pub mod AtSeats
pub mod MutexPlaces
pub mod MutexTokens
pub mod Noted
pub mod MutexSeats
