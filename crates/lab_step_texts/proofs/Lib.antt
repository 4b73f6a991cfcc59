pub mod CallLaws
pub mod CrewLaws
pub mod QuestionLaws
pub mod ReadingLaws
