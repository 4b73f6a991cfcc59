pub mod Plain
pub mod Crossing
pub mod FirstLaws
pub mod RefusalLaws
pub mod CallRows
