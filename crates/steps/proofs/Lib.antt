pub mod Marks
pub mod Equations
