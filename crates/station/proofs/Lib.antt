pub mod NumberedDecks
pub mod NumberedCards
pub mod NumberedFrames
pub mod OperationLaws
pub mod ReplyLaws
pub mod Sizes
pub mod PackLaws
