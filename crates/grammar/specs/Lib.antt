pub mod Ahead
pub mod Readers
