-- Waits: their records, places, beginnings and ends, and who is ready.
pub mod WaitSteps
pub mod WaitRecords
pub mod StandingLaws
pub mod ServedWaits
pub mod EndingLaws
pub mod ReadyLaws
pub mod WaitLaws
pub mod ProperLaws
pub mod ProperSteps
pub mod DeadlineLaws
pub mod WaitPlaces
