-- Laws that several proofs cite.
pub mod FillLaws
pub mod WalkLaws
pub mod ReadLaws
pub mod NumberingLaws
