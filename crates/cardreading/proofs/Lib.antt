pub mod ReadLaws
pub mod WalkLaws
