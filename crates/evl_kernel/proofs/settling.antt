-- Settling: one play after another, what is due, and when nothing is left to play.
pub mod DueLaws
pub mod Walking
pub mod ClockLaws
pub mod PlayLaws
pub mod ItemLaws
pub mod SettlingLaws
pub mod QuietLaws
pub mod PendingLaws
pub mod PlayWalk
