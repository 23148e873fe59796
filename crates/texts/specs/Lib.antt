pub mod Texts
pub mod Lent
