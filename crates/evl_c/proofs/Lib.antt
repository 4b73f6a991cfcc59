pub mod AsBox
pub mod AsHostBox
mod BoxLaws
mod Crossing
pub mod DrawLemmas
pub mod HandleLemmas
pub mod HostCallLemmas
mod HostCrossing
pub mod OrderLemmas
pub mod PictureLemmas
pub mod VerdictLemmas
pub mod TextLaws
