-- Histories: runs and their replay, and the laws over all of them.
pub mod HistoryLaws
pub mod Determined
pub mod OutsideLaws
pub mod SilenceLaws
pub mod WorldLaws
pub mod StateWalk
pub mod OwnerLaws
pub mod StageLaws
pub mod ShapeLaws
pub mod DateLaws
pub mod OwnRunLaws
pub mod TransferLaws
pub mod MutexRests
pub mod MutexDrops
pub mod WaitOwners
pub mod MutexEnds
pub mod MutexPlaces
