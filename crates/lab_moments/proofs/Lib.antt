pub mod AskedLaws
pub mod HandedLaws
pub mod LenderLaws
pub mod PendingLaws
mod RunLaws
mod WithinLaws
