pub mod GivenLaws
mod ReadingLaws
mod RefusalLaws
pub mod TableLaws
