pub mod Laws
pub mod Written
pub mod Equations
pub mod Dispatch
