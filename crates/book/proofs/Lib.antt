-- Laws that several proofs cite.
pub mod RecordLaws
pub mod FaultLaws
pub mod SavedLaws
pub mod KeptLaws
