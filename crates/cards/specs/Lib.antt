pub mod Card
pub mod Statement
pub mod Grammar
pub mod Typed
pub mod Read
pub mod Columns
pub mod Comments
pub mod Deep
