pub mod CrewLaws
pub mod PlayLaws
