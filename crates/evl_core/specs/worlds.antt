-- The core and the whole table as worlds of atomic steps, and what holds of them.
pub mod CoreWorld
pub mod QuietCore
pub mod OneWorld
pub mod TiedCore
pub mod Events
pub mod Tokens
pub mod LostTakes
pub mod Laws
