pub mod Asked
pub mod Moments
pub mod Standings
