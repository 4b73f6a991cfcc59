pub mod Acts
pub mod Documents
pub mod Marks
pub mod Names
pub mod Readings
pub mod Tables
pub mod StepWords
