-- The kernel's records: what they are, where callbacks are, and how contracts see them.
pub mod Limits
pub mod States
pub mod ElementsViews
pub mod Openings
pub mod Renamed
pub mod Callbacks
pub mod Records
pub mod RecordsInside
pub mod ChangedThreads
pub mod KernelViews
pub mod Places
pub mod Homecomings
pub mod Shapes
pub mod Insides
pub mod WaitBoxes
