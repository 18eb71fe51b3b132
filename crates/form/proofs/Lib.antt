-- Laws that several proofs cite.
pub mod FormLaws
pub mod GatherLaws
pub mod HaplotypeLaws
pub mod CountLaws
pub mod OrderLaws
pub mod LetterLaws
pub mod NumberLaws
pub mod SettingsLaws
