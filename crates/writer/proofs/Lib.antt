-- Laws that several proofs cite.
pub mod AgreeLaws
pub mod WriteLaws
pub mod EditionLaws
pub mod RowLaws
pub mod HeadLaws
pub mod CutLaws
pub mod StretchLaws
pub mod JobLaws
pub mod BackLaws
pub mod SlicesBack
pub mod GoodForm
pub mod WalkBack
pub mod RoundTrip
