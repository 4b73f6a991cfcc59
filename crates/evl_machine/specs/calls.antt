-- The calls of the kernel by a caller: one call, one visit, a wait; and the making and closing of a machine.
pub mod Calls
pub mod Makings
pub mod Closings
pub mod Visits
pub mod Waitings
pub mod Laws
