pub mod Boards
pub mod Texts
