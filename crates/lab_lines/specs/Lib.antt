pub mod Boards
pub mod Expects
pub mod Kinds
pub mod Lines
pub mod Met
pub mod Tables
pub mod Texts
pub mod Writings
