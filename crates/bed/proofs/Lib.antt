pub mod PartLaws
pub mod LineLaws
pub mod NameLaws
pub mod StoredLaws
pub mod TableLaws
pub mod RowLaws
pub mod RoundLaws
pub mod RoundTrip
