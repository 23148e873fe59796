pub mod Ahead
pub mod Numbers
pub mod Words
pub mod Binaries
