pub mod Expressions
pub mod Decks
pub mod Meaning
pub mod Cones
pub mod Pieces
pub mod Verdicts
