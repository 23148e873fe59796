pub mod Equations
pub mod Table
pub mod Reaching
pub mod Answered
pub mod Cases
