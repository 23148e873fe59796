pub mod Hex
pub mod Written
pub mod Read
pub mod Sizes
