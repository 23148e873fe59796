pub mod Signs
pub mod Expressions
pub mod Operators
pub mod Wholes
pub mod Readings
