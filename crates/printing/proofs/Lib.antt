pub mod Cases
pub mod PrintLaws
pub mod Worked
