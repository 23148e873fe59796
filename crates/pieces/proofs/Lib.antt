pub mod Piece
pub mod All
pub mod Stored
pub mod Theorems
