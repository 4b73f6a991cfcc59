pub mod RunLemmas
pub mod TextLaws
