pub mod Numbered
pub mod NumberedClaims
pub mod Laws
