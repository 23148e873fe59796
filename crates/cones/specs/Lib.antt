pub mod Dependencies
pub mod Cone
