-- Steps on the words of the mutexes: what each owes, leaves and notes.
pub mod SeatLists
pub mod DealLaws
pub mod MutexPlaces
pub mod MutexTokens
pub mod MutexDeeds
pub mod MutexStepLaws
pub mod StepNotes
pub mod StepDues
pub mod MutexAccepts
