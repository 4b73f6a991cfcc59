pub mod CheckLaws
pub mod KeyLaws
pub mod NearLaws
pub mod PieceLaws
pub mod PlaceLaws
mod Rows
pub mod RunLaws
pub mod StepLaws
