pub mod Ranks
pub mod Sets
