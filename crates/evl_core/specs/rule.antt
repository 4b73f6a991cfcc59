-- The rule of the core's table: its parts, what each step says, and the ties of the mutexes' words to the kernel's records.
pub mod Ceilings
pub mod CoreRule
pub mod CoreTells
pub mod ThreadRule
pub mod Ties
pub mod TieTells
pub mod Known
