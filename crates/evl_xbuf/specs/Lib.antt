pub mod Streams
pub mod Services
pub mod Serving
pub mod Flows
pub mod Arrivals
pub mod Xbufs
