pub mod Limits
pub mod Timers
pub mod Clocks
pub mod Dues
pub mod Searching
pub mod Agenda
pub mod ClockSteps
pub mod Names
