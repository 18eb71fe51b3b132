-- What the proofs of several functions use.
pub mod NumberLaws
mod RecordLaws
mod NumberedLaws
pub mod RowLaws
pub mod LaidLaws
pub mod SeveralNumberLaws
mod RecordStretchLaws
mod SeveralAnswerLaws
