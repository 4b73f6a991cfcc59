-- Worked rows, computed on the definitions.
mod Rows
mod WaitRows
mod FlagRows
mod OwnerRows
