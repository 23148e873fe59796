pub mod Outcomes
pub mod Complete
pub mod Stored
pub mod States
pub mod Levels
pub mod Lent
