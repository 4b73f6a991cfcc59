pub mod Plans
pub mod Told
pub mod Banks
pub mod Traces
