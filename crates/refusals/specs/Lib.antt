pub mod Order
pub mod CardFaults
pub mod StatementFaults
pub mod CardsOrder
pub mod FrameFaults
pub mod FramesOrder
pub mod ClaimFaults
pub mod OperationsOrder
