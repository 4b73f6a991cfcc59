-- Stage exclusion locks: what a call does to a caller's seats, and its waits.
pub mod StaxLaws
pub mod StaxCalls
pub mod StaxWaitLaws
