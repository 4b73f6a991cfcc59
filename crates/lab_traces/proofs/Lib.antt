mod EndTexts
mod RefusalLaws
mod OptionLaws
mod NumberLaws
mod PartLaws
pub mod CallTexts
pub mod EntryLaws
pub mod PlayLaws
mod BoardLaws
mod FirstLaws
pub mod LineLaws
