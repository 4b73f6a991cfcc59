-- The core and the whole table as worlds of atomic steps: the laws over them.
pub mod QuietCore
pub mod TiedCore
pub mod Tokens
pub mod LostTakes
pub mod CoreLaws
pub mod OneWorldLaws
pub mod RuleWorld
pub mod OneTurns
