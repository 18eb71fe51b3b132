pub mod DeskLaws
pub mod FeatureLaws
pub mod FaultLaws
pub mod AnswerLaws
pub mod StretchLaws
pub mod BlockLaws
pub mod MemoryLaws
pub mod ReadLaws
