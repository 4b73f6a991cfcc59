-- Stage exclusion locks: a caller's seats at them, its calls and its waits.
pub mod StaxSeats
pub mod StaxCalls
pub mod StaxWaits
