-- Laws that several proofs cite.
pub mod RuleLaws
pub mod OrderedLaws
pub mod AgreeLaws
pub mod MoveLaws
pub mod SameJobLaws
pub mod EditionLaws
pub mod ThereAndBackLaws
pub mod WalkLaws
pub mod FaultLaws
