pub mod Demands
pub mod OneReply
pub mod Worked
