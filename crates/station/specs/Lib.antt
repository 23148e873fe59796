pub mod Promises
pub mod Readings
