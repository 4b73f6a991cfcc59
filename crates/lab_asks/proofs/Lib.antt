pub mod OrderLemmas
pub mod StepOrderLemmas
