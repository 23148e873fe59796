pub mod Answers
pub mod Stored
pub mod Lent
pub mod Readings
