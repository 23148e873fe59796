pub mod Reduced
pub mod Laid
