pub mod NumberSetLaws
pub mod PortLaws
pub mod LineLaws
pub mod AllowedLaws
pub mod Rows
pub mod Crossing
pub mod ByLineLaws
pub mod LikenessLaws
