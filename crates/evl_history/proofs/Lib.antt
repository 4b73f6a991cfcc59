pub mod Crossing
pub mod HistoryLaws
pub mod RowLaws
