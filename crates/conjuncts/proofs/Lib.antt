pub mod Laws
pub mod States
