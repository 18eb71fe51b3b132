-- What is shown of the promises as a whole.
pub mod Bench
pub mod Demand3Laws
pub mod RecordNumbersLaws
pub mod SeveralHaplotypesLaws
pub mod EmptyRowsLaws
pub mod TargetLaws
pub mod Worked
pub mod NoParts
pub mod PartOrderLaws
pub mod AnchorsLaws
pub mod EdgesLaws
pub mod NoAnchorLaws
pub mod CompanionsTogetherLaws
pub mod EditionsLaws
pub mod UniqueLaws
